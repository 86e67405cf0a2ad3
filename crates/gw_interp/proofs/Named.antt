-- What holds of each name of a profile holds of each name of a list that can be cut for it.
use Rattle.std.proofs.Common.{◌≡◌, ℕ, zero, suc, true, List, [], ◌∷◌, refl, sym, subst}
use Rattle.std.specs.List.{AllByRecursion}
use Rattle.gw_er7.specs.Message.{SegmentValue}
use Rattle.gw_profile.specs.Shapes as shapes
use Rattle.gw_profile.specs.Shapes.{FieldValue, Forest, nothing, segment, group}
use Rattle.gw_profile.specs.WellFormed.{EachSegment}
use Rattle.gw_profile.proofs.Facts.{or_left, or_right}
use Rattle.gw_validate.specs.Cuts.{Cut, Many}
use Rattle.gw_profile.specs.Names.{stands}
use Rattle.gw_validate.specs.Conforming.{One, Seq}
use Rattle.gw_validate.proofs.Names.{equal_names}
use Rattle.gw_interp.proofs.Paths.{all_append}

module _ (meets : List FieldValue → SegmentValue → Type 0) (P : List ℕ → Type 0) where
  abbrev Each : List SegmentValue → Type 0
  Each = AllByRecursion (λ s. P s.name)

  cut_each : (Q R : List SegmentValue → Type 0) → ((l : List SegmentValue) → Q l → Each l) → ((l : List SegmentValue) → R l → Each l) → (l : List SegmentValue) → Cut Q R l → Each l
  cut_each Q R q r l c = subst Each (sym c.joined) (all_append _ c.front c.back (q c.front c.here) (r c.back c.there))

  many_each : (Q : List SegmentValue → Type 0) → ((l : List SegmentValue) → Q l → Each l) → (k : ℕ) (l : List SegmentValue) → Many Q k l → Each l
  many_each Q q zero l h = subst Each (sym h) tt
  many_each Q q (suc k) l h = cut_each Q (Many Q k) q (many_each Q q k) l h

  one_each : (name : List ℕ) (fields : List FieldValue) → P name → (l : List SegmentValue) → One (λ x. x.name) meets name fields l → Each l
  one_each name fields e [] h = absurd h
  one_each name fields e (s ∷ []) h = (subst P (sym h.0) e, tt)
  one_each name fields e (s ∷ t ∷ l) h = absurd h

  pub seq_each : (f : Forest) → EachSegment (λ s. P s.name) f → (l : List SegmentValue) → Seq (λ x. x.name) meets f l → Each l
  seq_each nothing e l h = subst Each (sym h) tt
  seq_each (segment s rest) e l h =
      cut_each _ _ (λ part times. many_each _ (one_each s.name s.fields e.0) times.0 part times.3) (seq_each rest e.1) l h
  seq_each (group g inner rest) e l h =
      cut_each _ _ (λ part times. many_each _ (seq_each inner e.0) times.0 part times.3) (seq_each rest e.1) l h

-- ---- each segment of a profile

module _ (P Q : shapes.SegmentValue → Type 0) where
  pub each_as : ((s : shapes.SegmentValue) → P s → Q s) → (f : Forest) → EachSegment P f → EachSegment Q f
  each_as so nothing e = tt
  each_as so (segment s rest) e = (so s e.0, each_as so rest e.1)
  each_as so (group g inner rest) e = (each_as so inner e.0, each_as so rest e.1)

  pub each_both : (R : shapes.SegmentValue → Type 0) → ((s : shapes.SegmentValue) → P s → Q s → R s) → (f : Forest) → EachSegment P f → EachSegment Q f → EachSegment R f
  each_both R so nothing e k = tt
  each_both R so (segment s rest) e k = (so s e.0 k.0, each_both R so rest e.1 k.1)
  each_both R so (group g inner rest) e k = (each_both R so inner e.0 k.0, each_both R so rest e.1 k.1)

abbrev AllStand : Forest → Forest → Type 0
AllStand whole = EachSegment (λ s. stands whole s.name ≡ true)

-- each has its name in the profile
pub each_stands : (f : Forest) → AllStand f f
each_stands nothing = tt
each_stands (segment s rest) =
    (or_left _ (stands rest s.name) (equal_names s.name s.name refl), each_as _ _ (λ t e. or_right _ (stands rest t.name) e) rest (each_stands rest))
each_stands (group g inner rest) = (
  each_as _ _ (λ t e. or_left (stands inner t.name) (stands rest t.name) e) inner (each_stands inner),
  each_as _ _ (λ t e. or_right (stands inner t.name) (stands rest t.name) e) rest (each_stands rest),
)
