use Rattle.gw_profile.specs.Seen.{sub}
use Rattle.gw_leaves.specs.own.Seen.{sub_failures}
use Rattle.gw_resolve.specs.Seen.{failures}
use Rattle.gw_resolve.proofs.Listing.{Tells}
use Rattle.gw_leaves.proofs.elements.check_subs.Given as goal

abbrev pub invariant-loop-sub : goal.invariant-loop-sub
invariant-loop-sub l = Tells (sub_failures l.sources l.mark l.filling l.comp) sub (failures l.initial.found.items) (failures l.found.items) l.sub-index l.subs
