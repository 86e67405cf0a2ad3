-- What a message breaks, and the breach that is named: the first in the order of segment, field, repetition, component, subcomponent and kind.
use Rattle.std.specs.Prelude.{◌≡◌, ◌⊎◌, ℕ, suc, List, [], ◌∷◌, length, take, slice_get, Some}
use Rattle.std.specs.List.{count_by}
use Rattle.std.specs.Str.{bytes_eq}
use Rattle.gw_er7.specs.Message.{SegmentValue}
use Rattle.gw_profile.specs.Shapes.{FieldValue, ProfileValue}
use Rattle.gw_profile.specs.Deterministic.{Name}
use Rattle.gw_validate.specs.declared.breach.Breach.{Breach}
use Rattle.gw_validate.specs.Kinds.{number_of}
use Rattle.gw_validate.specs.Breaches.{SegmentBreach, NotAfter}
use Rattle.gw_validate.specs.Cuts.{Begins, IsShortest}
use Rattle.gw_validate.specs.Conforming.{names, NamesFit, numbers, named, MeetsAt}
use Rattle.gw_validate.specs.Trees.{Tree, IsTree, AllMeet, assigned}

-- the tree of a message whose names fit
abbrev pub IsTreeOf : ProfileValue → List SegmentValue → Tree → Type 0
IsTreeOf p m t = IsTree (named m) t p.nodes (numbers p.nodes m)

-- in that tree each segment meets the shape of its node
abbrev pub AllMeetIn : ProfileValue → List SegmentValue → Tree → Type 0
AllMeetIn p m t = AllMeet (MeetsAt p m) (assigned t p.nodes)

-- the shortest completion of a message's names
abbrev pub IsShortestOf : ProfileValue → List SegmentValue → List Name → Type 0
IsShortestOf p m rest = IsShortest p.nodes (names p.nodes m) rest

-- the segment of this number stands at a node of this shape
abbrev pub Assigns : List (ℕ × List FieldValue) → ℕ → List FieldValue → Type 0
Assigns [] i shape = ⊥
Assigns (p ∷ ps) i shape = (p ≡ (i, shape)) ⊎ Assigns ps i shape

-- A breach by the number of its segment in the message (from 0), the segment's name, and its spot: field, repetition, component, subcomponent, and the number of the kind.
pub data Breaks (p : ProfileValue) (m : List SegmentValue) : ℕ → Name → List ℕ → Type 0 where
  -- the names before this segment begin a list that fits, and with it they begin none
  out_of_order : {i : ℕ} (s : SegmentValue) → slice_get m i ≡ Some s → Begins p.nodes (names p.nodes (take i m)) → (Begins p.nodes (names p.nodes (take (suc i) m)) → ⊥) → Breaks p m i s.name (0 ∷ 0 ∷ 0 ∷ 0 ∷ 1 ∷ [])
  -- the message ends and its names begin a list that fits but are none: the first segment of the shortest completion, behind the last
  missing : {name : Name} (rest : List Name) → (NamesFit p.nodes m → ⊥) → IsShortest p.nodes (names p.nodes m) (name ∷ rest) → Breaks p m (length m) name (0 ∷ 0 ∷ 0 ∷ 0 ∷ 2 ∷ [])
  -- the names fit, and a segment breaks the shape of its node
  in_segment : (t : Tree) (shape : List FieldValue) {i : ℕ} (s : SegmentValue) {spot : List ℕ} → IsTreeOf p m t → Assigns (assigned t p.nodes) i shape → slice_get m i ≡ Some s → SegmentBreach p shape s.at spot → Breaks p m i s.name spot

-- how many segments of that name stand before the one of this number, and one more
abbrev pub sequence : List SegmentValue → ℕ → Name → ℕ
sequence m i name = suc (count_by (λ s. bytes_eq s.name name) (take i m))

-- the spot that a breach says
abbrev pub spot_of : Breach → List ℕ
spot_of b = b.field ∷ b.rep ∷ b.comp ∷ b.sub ∷ number_of b.kind ∷ []

-- the message breaks so, and no breach comes before
pub record IsLeast (p : ProfileValue) (m : List SegmentValue) (b : Breach) : Type 0 where
  pub number : ℕ
  pub breaks : Breaks p m number b.segment (spot_of b)
  pub counted : b.sequence ≡ sequence m number b.segment
  pub least : (i : ℕ) (name : Name) (spot : List ℕ) → Breaks p m i name spot → NotAfter (number ∷ spot_of b) (i ∷ spot)
