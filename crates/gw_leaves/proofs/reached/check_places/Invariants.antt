use Rattle.gw_resolve.specs.Seen.{failures, at_leaf}
use Rattle.gw_leaves.specs.Reached.{place_failures}
use Rattle.gw_leaves.specs.Uses.{sources_value, map_tables}
use Rattle.gw_resolve.proofs.Listing.{Tells}
use Rattle.gw_leaves.proofs.reached.check_places.Given as goal

abbrev pub invariant-loop-at : goal.invariant-loop-at
invariant-loop-at l = Tells (place_failures (sources_value l.sources) l.field) (at_leaf (map_tables l.sources)) (failures l.initial.found.items) (failures l.found.items) l.at-index l.leaves
