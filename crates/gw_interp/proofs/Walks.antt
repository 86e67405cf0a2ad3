-- What is known of the occurrences and texts that a map reads, where the message conforms to the source profile.
use Rattle.std.proofs.Common.{◌≡◌, ℕ, ◌≤◌, ◌⊎◌, true, List, [], ◌∷◌, length, Option, Some, None}
use Rattle.std.specs.List.{AllByRecursion}
use Rattle.gw_er7.specs.Message.{Texts, text_of, SegmentValue}
use Rattle.gw_er7.specs.Presence.{RepAt}
use Rattle.gw_profile.specs.Shapes.{FieldValue, Forest, ProfileValue, nothing, segment, group}
use Rattle.gw_profile.specs.WellFormed.{LawfulField}
use Rattle.gw_profile.specs.Deterministic.{AtMost}
use Rattle.gw_validate.specs.Breaches.{Meets, FieldBreach}
use Rattle.gw_validate.specs.Trees.{Tree, leaf, segments, groups, Trees, no_trees, trees, count_of}
use Rattle.gw_validate.specs.Conforming.{named, segment_at}
use Rattle.gw_resolve.specs.Intervals.{is_sure, is_never}
use Rattle.gw_resolve.specs.Places as elements
use Rattle.gw_resolve.specs.Places.{Element, Place, Known, known}
use Rattle.gw_leaves.specs.Leaves.{Sources}
use Rattle.gw_interp.specs.Occurrences.{Occurrence, a_segment, nodes, texts_at}
use Rattle.gw_interp.specs.Meaning.{Walked}

-- ---- occurrences

-- a segment of that name that meets the shape
pub record IsSegmentOf (profile : ProfileValue) (m : List SegmentValue) (name : List ℕ) (fields : List FieldValue) (i : ℕ) : Type 0 where
  pub name_is : named m i ≡ name
  pub meets : Meets profile fields (segment_at m i).at

abbrev mutual
  -- the occurrences of each node, as often as its cardinality says
  pub IsLevel : ProfileValue → List SegmentValue → Tree → Forest → Type 0
  IsLevel profile m leaf nothing = Unit {0}
  IsLevel profile m (segments ns t) (segment s rest) =
      (s.card.min ≤ length ns) × AtMost s.card.max (length ns) × AllByRecursion (IsSegmentOf profile m s.name s.fields) ns × IsLevel profile m t rest
  IsLevel profile m (groups ts t) (group g below rest) =
      (g.card.min ≤ count_of ts) × AtMost g.card.max (count_of ts) × AreLevels profile m ts below × IsLevel profile m t rest
  IsLevel profile m _ _ = ⊥

  pub AreLevels : ProfileValue → List SegmentValue → Trees → Forest → Type 0
  AreLevels profile m no_trees below = Unit {0}
  AreLevels profile m (trees t ts) below = IsLevel profile m t below × AreLevels profile m ts below

abbrev pub IsOccurrence : ProfileValue → List SegmentValue → Element → Occurrence → Type 0
IsOccurrence profile m (elements.a_segment s) (a_segment i) = IsSegmentOf profile m s.name s.fields i
IsOccurrence profile m (elements.a_segment s) (nodes t) = ⊥
IsOccurrence profile m (elements.a_group g below) (a_segment i) = ⊥
IsOccurrence profile m (elements.a_group g below) (nodes t) = IsLevel profile m t below
IsOccurrence profile m (elements.the_whole below) (a_segment i) = ⊥
IsOccurrence profile m (elements.the_whole below) (nodes t) = IsLevel profile m t below

-- what is walked are occurrences of these elements
abbrev pub InScope : ProfileValue → List SegmentValue → List Element → List Occurrence → Type 0
InScope profile m [] [] = Unit {0}
InScope profile m [] (o ∷ os) = ⊥
InScope profile m (e ∷ es) [] = ⊥
InScope profile m (e ∷ es) (o ∷ os) = IsOccurrence profile m e o × InScope profile m es os

-- ---- texts

abbrev pub NoText : Texts → Type 0
NoText m = (f r c s : ℕ) → text_of m f r c s ≡ []

-- what the profile says of the texts at a place
pub record IsKnown (names : List (List ℕ)) (profile : ProfileValue) (k : Known) (m : Texts) : Type 0 where
  pub lawful : AllByRecursion (LawfulField names) k.fields
  pub meets : Meets profile k.fields m ⊎ NoText m
  pub sure : is_sure k.count ≡ true → Meets profile k.fields m
  pub never : is_never k.count.greatest ≡ true → NoText m

-- a repetition that is present, of a field that breaks nothing
pub record IsRepetition (names : List (List ℕ)) (profile : ProfileValue) (shape : FieldValue) (current : ℕ → ℕ → List ℕ) : Type 0 where
  pub texts : Texts
  pub rep : ℕ
  pub lawful : LawfulField names shape
  pub present : RepAt texts shape.number rep
  pub unbroken : (spot : List ℕ) → FieldBreach profile texts shape spot → ⊥
  pub current_is : (comp sub : ℕ) → current comp sub ≡ text_of texts shape.number rep comp sub

abbrev pub IsCurrent : List (List ℕ) → ProfileValue → Option FieldValue → (ℕ → ℕ → List ℕ) → Type 0
IsCurrent names profile None current = Unit {0}
IsCurrent names profile (Some shape) current = IsRepetition names profile shape current

-- what is read is as the profile says
pub record IsWalked (names : List (List ℕ)) (s : Sources) (w : Walked) : Type 0 where
  pub places : (place : Place) → IsKnown names s.profile (known s.scope place) (texts_at w.message w.scope place)
  pub current : IsCurrent names s.profile s.current w.current
