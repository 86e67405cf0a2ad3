-- Borrowed occurrences.
use Rattle.std.specs.Prelude.{ℕ, ◌<◌, List, length, Option, Some, None}
use Rattle.gw_er7.specs.Message.{SegmentValue}
use Rattle.gw_profile.specs.Seen.{forest}
use Rattle.gw_validate.specs.declared.occ.Row.{Row}
use Rattle.gw_validate.specs.declared.occ.Shown.{Shown}
use Rattle.gw_validate.specs.declared.occ.Shown.TheVariants as shown
use Rattle.gw_validate.specs.Trees.{Tree, leaf}
use Rattle.gw_validate.specs.own.Judging.{IsKept}
use Rattle.gw_validate.specs.own.Occurring.{tree_of}

abbrev pub row_tree : Row → Tree
row_tree r = tree_of r.listed.now (forest r.nodes.now) r.found.now

abbrev pub shown_number : Shown → Option ℕ
shown_number (shown.Segment number) = Some number
shown_number (shown.Group row) = None

abbrev pub shown_tree : Shown → Tree
shown_tree (shown.Segment number) = leaf
shown_tree (shown.Group row) = row_tree row

-- what is shown is of the message
abbrev pub IsOf : List SegmentValue → Shown → Type 0
IsOf m (shown.Segment number) = number < length m
IsOf m (shown.Group row) = IsKept (forest row.nodes.now) m row.listed.now row.found.now
