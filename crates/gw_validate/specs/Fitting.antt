-- A message with the tree of a profile that it conforms to, and its borrowed occurrences.
use Rattle.std.specs.Prelude.{◌≡◌, ℕ, ◌<◌, List, length, Option, Some, None, slice_get}
use Rattle.std.specs.List.{AllByRecursion}
use Rattle.gw_er7.specs.Message.{SegmentValue}
use Rattle.gw_profile.specs.Seen.{Contents}
use Rattle.gw_validate.specs.Trees.{Tree, leaf, flatten}

-- a profile, a message, and its tree
pub record TreeValue : Type 0 where
  pub profile : Contents
  pub message : List SegmentValue
  pub tree : Tree

-- one occurrence in a message: the number of a segment, or for a group the tree of its children
pub record OccValue : Type 0 where
  pub message : List SegmentValue
  pub number : Option ℕ
  pub tree : Tree

abbrev pub IsBelow : ℕ → Option ℕ → Type 0
IsBelow n None = Unit {0}
IsBelow n (Some i) = i < n

abbrev pub IsAlone : Option ℕ → Tree → Type 0
IsAlone None t = Unit {0}
IsAlone (Some i) t = t ≡ leaf

-- its segments are those of the message, and a segment has no children
pub record IsLent (o : OccValue) : Type 0 where
  pub number : IsBelow (length o.message) o.number
  pub alone : IsAlone o.number o.tree
  pub each : AllByRecursion (λ i. i < length o.message) (flatten o.tree)

-- the segment that an occurrence is, none for a group
abbrev pub numbered : List SegmentValue → Option ℕ → Option SegmentValue
numbered m None = None
numbered m (Some i) = slice_get m i

abbrev pub segment_of : OccValue → Option SegmentValue
segment_of o = numbered o.message o.number
