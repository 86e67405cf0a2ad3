use Rattle.gw_resolve.specs.Seen.{failures, alternative}
use Rattle.gw_leaves.specs.own.Seen.{other_failures}
use Rattle.gw_leaves.specs.Uses.{map_tables}
use Rattle.gw_resolve.proofs.Listing.{Tells}
use Rattle.gw_leaves.proofs.made.check_others.Given as goal

abbrev pub invariant-loop-other : goal.invariant-loop-other
invariant-loop-other l = Tells (other_failures l.sources l.mark l.sub) (alternative (map_tables l.sources)) (failures l.initial.found.items) (failures l.found.items) l.other-index l.others
