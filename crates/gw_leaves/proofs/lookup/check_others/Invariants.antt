use Rattle.gw_resolve.specs.Seen.{failures, alternative, mark}
use Rattle.gw_leaves.specs.Components.{other_lookups}
use Rattle.gw_leaves.specs.Uses.{sources_value, map_tables}
use Rattle.gw_resolve.proofs.Listing.{Tells}
use Rattle.gw_leaves.proofs.lookup.check_others.Given as goal

abbrev pub invariant-loop-other : goal.invariant-loop-other
invariant-loop-other l = Tells (other_lookups (sources_value l.sources) (mark l.mark)) (alternative (map_tables l.sources)) (failures l.initial.found.items) (failures l.found.items) l.other-index l.others
