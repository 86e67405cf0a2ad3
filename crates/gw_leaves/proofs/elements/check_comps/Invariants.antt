use Rattle.gw_profile.specs.Seen.{comp}
use Rattle.gw_leaves.specs.own.Seen.{comp_failures}
use Rattle.gw_resolve.specs.Seen.{failures}
use Rattle.gw_resolve.proofs.Listing.{Tells}
use Rattle.gw_leaves.proofs.elements.check_comps.Given as goal

abbrev pub invariant-loop-comp : goal.invariant-loop-comp
invariant-loop-comp l = Tells (comp_failures l.sources l.mark l.filling) comp (failures l.initial.found.items) (failures l.found.items) l.comp-index l.comps
