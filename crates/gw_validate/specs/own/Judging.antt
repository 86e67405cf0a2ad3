-- What a message is judged to be, before the profile and the message are moved.
use Rattle.std.specs.Prelude.{ℕ, ◌<◌, List, ◌≡◌, length, Option, MatchOption}
use Rattle.std.specs.List.{AllByRecursion}
use denote.Ref.{Bor}
use Rattle.gw_profile.specs.declared.shape.FieldShape.{FieldShape}
use Rattle.gw_er7.specs.Message.{SegmentValue}
use Rattle.gw_profile.specs.Shapes.{Forest, ProfileValue}
use Rattle.gw_profile.specs.Deterministic.{Determined, NoName}
use Rattle.gw_validate.specs.declared.occurrences.Found.{Found}
use Rattle.gw_validate.specs.declared.breach.Breach.{Breach}
use Rattle.gw_validate.specs.declared.verdict.Judged.{Judged}
use Rattle.gw_validate.specs.declared.verdict.Judged.TheVariants as judged
use Rattle.gw_validate.specs.declared.verdict.Placed.{Placed}
use Rattle.gw_validate.specs.declared.verdict.Placed.TheVariants as placed
use Rattle.gw_validate.specs.Conforming.{Conforms, NamesFit, numbers, named}
use Rattle.gw_validate.specs.Broken.{IsTreeOf, IsLeast}
use Rattle.gw_validate.specs.own.Finding.{IsAlone}
use Rattle.gw_validate.specs.own.Least.{ShapeRises}
use Rattle.gw_validate.specs.own.Occurring.{tree_of, IsOrdered}
use Rattle.gw_validate.specs.own.Taking.{Assigned, paired, shape_of}

-- what is kept of a message: the numbers are those of its segments, and those of nodes rise
pub record IsKept (nodes : Forest) (m : List SegmentValue) (listed : List ℕ) (found : Found) : Type 0 where
  pub ordered : IsOrdered nodes found
  pub within : AllByRecursion (λ i. i < length m) listed

-- the message conforms, and this is its tree
pub record HasKept (p : ProfileValue) (m : List SegmentValue) (listed : List ℕ) (found : Found) : Type 0 where
  pub conforms : Conforms p m
  pub tree : IsTreeOf p m (tree_of listed p.nodes found)
  pub kept : IsKept p.nodes m listed found

abbrev pub IsJudged : ProfileValue → List SegmentValue → Judged → Type 0
IsJudged p m (judged.Fits listed found) = HasKept p m listed.items found
IsJudged p m (judged.Breaks b) = IsLeast p m b × (Conforms p m → ⊥)

-- the names fit, and these are the shapes of the segments that aren't passed over
pub record IsShaped (p : ProfileValue) (m : List SegmentValue) (shapes : List (Bor (List FieldShape))) : Type 0 where
  pub determined : Determined p.nodes NoName
  pub fits : NamesFit p.nodes m
  pub same : length shapes ≡ length (numbers p.nodes m)
  pub assigns : Assigned (named m) p.nodes (numbers p.nodes m) (paired (numbers p.nodes m) shapes)
  pub rises : AllByRecursion (λ fields. ShapeRises (shape_of fields)) shapes

abbrev pub IsPlaced : ProfileValue → List SegmentValue → Placed → Type 0
IsPlaced p m (placed.Shapes shapes) = IsShaped p m shapes.items
IsPlaced p m (placed.Alone number breach) = IsAlone p m (number, breach)

-- the message conforms, or this is its least breach
abbrev pub IsFirst : ProfileValue → List SegmentValue → Option Breach → Type 0
IsFirst p m first = MatchOption first (Conforms p m) (λ b. IsLeast p m b × (Conforms p m → ⊥))
