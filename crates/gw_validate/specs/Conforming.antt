-- Which messages conform to a profile (HL7 v2.5.1 chapter 2, 2.12: segments in order, segment groups, cardinality, usage).
use Rattle.std.specs.Prelude.{◌≡◌, ℕ, suc, List, [], ◌∷◌, map, filter, slice_get, unwrap_or, if◌then◌else◌}
use Rattle.std.specs.FinMap as texts
use Rattle.gw_er7.specs.Message.{SegmentValue}
use Rattle.gw_profile.specs.Shapes.{FieldValue, Forest, nothing, segment, group, ProfileValue}
use Rattle.gw_profile.specs.Deterministic.{Name}
use Rattle.gw_profile.specs.Names.{stands}
use Rattle.gw_validate.specs.Cuts.{Cut, Times, Fits}
use Rattle.gw_validate.specs.Breaches.{Meets}

-- ---- which segments count

-- the segments that aren't passed over
abbrev pub listed : Forest → List SegmentValue → List SegmentValue
listed f m = filter (λ s. stands f s.name) m

-- the names of those
abbrev pub names : Forest → List SegmentValue → List Name
names f m = map (λ s. s.name) (listed f m)

-- the names alone fit the profile's nodes
abbrev pub NamesFit : Forest → List SegmentValue → Type 0
NamesFit f m = Fits f (names f m)

-- ---- which messages conform

-- one item of that name, which meets the shape
abbrev pub One : {I : Type 0} → (I → Name) → (List FieldValue → I → Type 0) → Name → List FieldValue → List I → Type 0
One named meets name shape [] = ⊥
One named meets name shape (i ∷ []) = (named i ≡ name) × meets shape i
One named meets name shape (i ∷ j ∷ list) = ⊥

-- the list can be cut into one part for each node, each segment meeting its node's shape
abbrev pub Seq : {I : Type 0} → (I → Name) → (List FieldValue → I → Type 0) → Forest → List I → Type 0
Seq named meets nothing list = list ≡ []
Seq named meets (segment s rest) list =
    Cut (Times s.card.min s.card.max (One named meets s.name s.fields)) (Seq named meets rest) list
Seq named meets (group g nodes rest) list =
    Cut (Times g.card.min g.card.max (Seq named meets nodes)) (Seq named meets rest) list

-- the segments that aren't passed over can be cut so
abbrev pub Conforms : ProfileValue → List SegmentValue → Type 0
Conforms p m = Seq (λ s. s.name) (λ shape s. Meets p shape s.at) p.nodes (listed p.nodes m)

-- ---- the same by the numbers of the segments

abbrev pub numbers_from : Forest → ℕ → List SegmentValue → List ℕ
numbers_from f i [] = []
numbers_from f i (s ∷ m) = if stands f s.name then i ∷ numbers_from f (suc i) m else numbers_from f (suc i) m

-- the numbers, from 0, of the segments that aren't passed over
abbrev pub numbers : Forest → List SegmentValue → List ℕ
numbers f m = numbers_from f 0 m

-- the segment of this number
abbrev pub segment_at : List SegmentValue → ℕ → SegmentValue
segment_at m i = unwrap_or (slice_get m i) (record { name = 0 ∷ 0 ∷ 0 ∷ []; at = texts.empty })

abbrev pub named : List SegmentValue → ℕ → Name
named m i = (segment_at m i).name

-- it meets the shape
abbrev pub MeetsAt : ProfileValue → List SegmentValue → List FieldValue → ℕ → Type 0
MeetsAt p m shape i = Meets p shape (segment_at m i).at
