-- The rule on conditions and alternatives (13), by what the items walk.
use Rattle.std.specs.Prelude.{ℕ, List, [], ◌++◌, flat_map, Option, Some, None}
use Rattle.gw_profile.specs.Shapes.{ProfileValue}
use Rattle.gw_resolve.specs.Failures.{Failure, at_line}
use Rattle.gw_resolve.specs.Places.{Element, within, within_if}
use Rattle.gw_resolve.specs.Resolved.{FieldCondition, SegmentItem, Items, no_items, segment_item, group_item, flat_item}
use Rattle.gw_leaves.specs.Leaves.{Sources}
use Rattle.gw_leaves.specs.Reached.{condition_failures, rule_failures}
use Rattle.gw_check.specs.Levels.{sources}

-- of the condition of an item at this line, in what it walks
abbrev pub asked_failures : Sources → ℕ → Option FieldCondition → List Failure
asked_failures s line None = []
asked_failures s line (Some c) = condition_failures s (at_line line) c.from (Some c.condition)

-- of a segment and its rules
abbrev pub segment_reached : Sources → SegmentItem → List Failure
segment_reached s i = asked_failures s i.line i.condition ++ flat_map (rule_failures s) i.rules

-- of the items, where this is walked
abbrev pub reached_failures : ProfileValue → List Element → Items → List Failure
reached_failures profile scope no_items = []
reached_failures profile scope (segment_item s rest) = segment_reached (sources profile (within_if scope s.place)) s ++ reached_failures profile scope rest
reached_failures profile scope (group_item g items rest) =
    (asked_failures (sources profile (within scope g.place)) g.line g.condition ++ reached_failures profile (within scope g.place) items)
    ++ reached_failures profile scope rest
reached_failures profile scope (flat_item f items rest) =
    (asked_failures (sources profile (within scope f.place)) f.line f.condition ++ reached_failures profile (within scope f.place) items)
    ++ reached_failures profile scope rest
