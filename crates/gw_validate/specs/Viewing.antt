-- What the views of a tree show.
use Rattle.std.specs.Prelude.{ℕ, zero, suc, length, Option, Some, None, option_map, slice_get}
use Rattle.gw_validate.specs.Trees.{Tree, leaf, segments, groups, Trees, no_trees, trees, count_of}
use Rattle.gw_validate.specs.Fitting.{OccValue}

-- one occurrence: the number of a segment, or the occurrences in a group
pub data Occurrence : Type 0 where
  number : ℕ → Occurrence
  row : Tree → Occurrence

abbrev pub tree_at : Trees → ℕ → Option Tree
tree_at no_trees k = None
tree_at (trees t ts) zero = Some t
tree_at (trees t ts) (suc k) = tree_at ts k

-- how many nodes a tree has at its top
abbrev pub width : Tree → ℕ
width leaf = 0
width (segments ns t) = suc (width t)
width (groups ts t) = suc (width t)

-- how often the child occurs
abbrev pub count_at : Tree → ℕ → ℕ
count_at leaf c = 0
count_at (segments ns t) zero = length ns
count_at (segments ns t) (suc c) = count_at t c
count_at (groups ts t) zero = count_of ts
count_at (groups ts t) (suc c) = count_at t c

-- the occurrence of this number of the child
abbrev pub occurrence_at : Tree → ℕ → ℕ → Option Occurrence
occurrence_at leaf c k = None
occurrence_at (segments ns t) zero k = option_map number (slice_get ns k)
occurrence_at (segments ns t) (suc c) k = occurrence_at t c k
occurrence_at (groups ts t) zero k = option_map row (tree_at ts k)
occurrence_at (groups ts t) (suc c) k = occurrence_at t c k

abbrev pub numbered_or : Option ℕ → Tree → Occurrence
numbered_or None t = row t
numbered_or (Some n) t = number n

-- what a borrowed occurrence shows
abbrev pub occurrence_of : OccValue → Occurrence
occurrence_of o = numbered_or o.number o.tree
