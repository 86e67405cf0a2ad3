use Rattle.std.proofs.Common.{◌≡◌, drop, map}
use Rattle.gw_resolve.specs.Seen.{at_leaf}
use Rattle.gw_leaves.specs.Uses.{sources_value, map_tables}
use Rattle.gw_leaves.specs.own.Parts.{some_sure}
use Rattle.gw_leaves.proofs.parts.some_sure.Given as goal

abbrev pub invariant-loop-at : goal.invariant-loop-at
invariant-loop-at l = some_sure (sources_value l.sources) l.part (map (at_leaf (map_tables l.sources)) l.leaves) ≡ some_sure (sources_value l.sources) l.part (map (at_leaf (map_tables l.sources)) (drop l.at-index l.leaves))
