use Rattle.gw_resolve.specs.Seen.{failures, alternative, at_leaf}
use Rattle.gw_leaves.specs.Components.{leaf_mark}
use Rattle.gw_leaves.specs.Reached.{unreached_failures}
use Rattle.gw_leaves.specs.Uses.{map_tables}
use Rattle.gw_resolve.proofs.Listing.{Tells}
use Rattle.gw_leaves.proofs.reached.check_place.Given as goal

abbrev pub invariant-loop-other : goal.invariant-loop-other
invariant-loop-other l = Tells (unreached_failures (leaf_mark l.field (at_leaf (map_tables l.sources) l.at))) (alternative (map_tables l.sources)) (failures l.initial.found.items) (failures l.found.items) l.other-index l.others
