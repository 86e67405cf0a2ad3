use Rattle.std.proofs.Common.{◌≡◌, drop, map}
use Rattle.gw_resolve.specs.Seen.{at_leaf}
use Rattle.gw_leaves.specs.Uses.{sources_value, map_tables}
use Rattle.gw_leaves.specs.own.Parts.{none_beside}
use Rattle.gw_leaves.proofs.parts.none_beside.Given as goal

abbrev pub invariant-loop-at : goal.invariant-loop-at
invariant-loop-at l = none_beside (sources_value l.sources) l.part (map (at_leaf (map_tables l.sources)) l.leaves) ≡ none_beside (sources_value l.sources) l.part (map (at_leaf (map_tables l.sources)) (drop l.at-index l.leaves))
