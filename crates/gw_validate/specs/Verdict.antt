-- What a verdict says of a message.
use Rattle.std.specs.Prelude.{◌≡◌, Bool, true, false, List}
use Rattle.gw_er7.specs.Message.{SegmentValue}
use Rattle.gw_profile.specs.Shapes.{ProfileValue}
use Rattle.gw_profile.specs.Seen.{profile_value}
use Rattle.gw_validate.specs.declared.breach.Breach.{Breach}
use Rattle.gw_validate.specs.declared.verdict.Verdict.{Verdict}
use Rattle.gw_validate.specs.declared.verdict.Verdict.TheVariants as verdict
use Rattle.gw_validate.specs.Broken.{IsTreeOf, IsLeast}
use Rattle.gw_validate.specs.Fitting.{TreeValue}

abbrev pub is_fit : Verdict → Bool
is_fit (verdict.Fits t) = true
is_fit (verdict.Breaks b back) = false

-- what holds of the tree, where the verdict is one
abbrev pub IfFits : Verdict → (TreeValue → Type 0) → Type 0
IfFits (verdict.Fits t) P = P t
IfFits (verdict.Breaks b back) P = Unit {0}

-- what holds of the breach and the returned message, where the verdict is one
abbrev pub IfBreaks : Verdict → (Breach → List SegmentValue → Type 0) → Type 0
IfBreaks (verdict.Fits t) P = Unit {0}
IfBreaks (verdict.Breaks b back) P = P b back

-- a tree of this profile and this message
pub record HasTree (p : ProfileValue) (m : List SegmentValue) (t : TreeValue) : Type 0 where
  pub profile : profile_value t.profile ≡ p
  pub message : t.message ≡ m
  pub tree : IsTreeOf p m t.tree

-- the least breach of this message, which is returned
pub record HasBreach (p : ProfileValue) (m : List SegmentValue) (b : Breach) (back : List SegmentValue) : Type 0 where
  pub least : IsLeast p m b
  pub message : back ≡ m
