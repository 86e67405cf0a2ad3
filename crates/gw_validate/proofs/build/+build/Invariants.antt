use Rattle.std.proofs.Common.{◌-◌, length, drop}
use Rattle.std.specs.List.{AllByRecursion}
use Rattle.gw_profile.specs.Seen.{forest}
use Rattle.gw_validate.specs.own.Building.{GoGroups}
use Rattle.gw_validate.specs.own.Occurring.{found_of, trees_of, IsOrdered}
use Rattle.gw_validate.specs.Conforming.{named}
use Rattle.gw_validate.proofs.Building.{Going}
use Rattle.gw_validate.proofs.build.+build.Given as goal

abbrev pub invariant-build_groups-loop-here : goal.invariant-build_groups-loop-here
invariant-build_groups-loop-here l = record {
  going : GoGroups (named l.message) l.fn.card.min l.fn.card.max (forest l.children) (drop l.fn.at l.listed) (trees_of l.listed (forest l.children) (found_of l.found)) l.due.min l.due.max (drop l.here l.listed);
  ordered : AllByRecursion (IsOrdered (forest l.children)) (found_of l.found);
}

abbrev pub decreases-build_groups-loop-here : goal.decreases-build_groups-loop-here
decreases-build_groups-loop-here l = length l.listed - l.here

abbrev pub invariant-build_nodes-loop-i : goal.invariant-build_nodes-loop-i
invariant-build_nodes-loop-i l = Going (named l.message) l.listed l.nodes l.i (drop l.fn.at l.listed) l.found (drop l.here l.listed)
