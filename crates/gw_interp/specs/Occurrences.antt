-- The occurrences of a profile's elements in a message, and those at the places that a map reads.
use Rattle.std.specs.Prelude.{ℕ, zero, suc, List, [], ◌∷◌, map, flat_map}
use Rattle.std.specs.FinMap as texts
use Rattle.gw_er7.specs.Message.{Texts, SegmentValue}
use Rattle.gw_validate.specs.Trees.{Tree, leaf, segments, groups, Trees, no_trees, trees}
use Rattle.gw_validate.specs.Conforming.{segment_at}
use Rattle.gw_resolve.specs.Places.{Place}

-- a segment of the message, by its number; a group, or the whole message, with the occurrences of its nodes
pub data Occurrence : Type 0 where
  a_segment : (number : ℕ) → Occurrence
  nodes : (each : Tree) → Occurrence

abbrev pub list_of : Trees → List Occurrence
list_of no_trees = []
list_of (trees t ts) = nodes t ∷ list_of ts

-- those of the node of this number, from 0
abbrev pub level_at : Tree → ℕ → List Occurrence
level_at leaf i = []
level_at (segments ns t) zero = map a_segment ns
level_at (segments ns t) (suc i) = level_at t i
level_at (groups ts t) zero = list_of ts
level_at (groups ts t) (suc i) = level_at t i

abbrev pub children : Occurrence → ℕ → List Occurrence
children (a_segment number) i = []
children (nodes each) i = level_at each i

-- from one occurrence down
abbrev pub below : List ℕ → Occurrence → List Occurrence
below [] o = o ∷ []
below (i ∷ steps) o = flat_map (below steps) (children o i)

abbrev pub in_scope : List Occurrence → ℕ → List Occurrence
in_scope [] out = []
in_scope (o ∷ scope) zero = o ∷ []
in_scope (o ∷ scope) (suc out) = in_scope scope out

-- the occurrences at a place, in the order of the message, seen from those that are walked, the innermost first
abbrev pub at_place : List Occurrence → Place → List Occurrence
at_place scope place = flat_map (below place.steps) (in_scope scope place.out)

-- ---- texts

abbrev pub texts_of_first : List SegmentValue → List Occurrence → Texts
texts_of_first m [] = texts.empty
texts_of_first m (a_segment number ∷ more) = (segment_at m number).at
texts_of_first m (nodes each ∷ more) = texts.empty

-- the texts of the segment at a place; none where it isn't there
abbrev pub texts_at : List SegmentValue → List Occurrence → Place → Texts
texts_at m scope place = texts_of_first m (at_place scope place)
