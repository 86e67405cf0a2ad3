use Rattle.std.specs.Arc.{arc_value}
use Rattle.gw_crew.proofs.Swapped.{swaps_so, seen_is}
use Rattle.gw_crew.proofs.swaps.swap.Goals as goal

pub returns-in-Ok-call : goal.returns-in-Ok-call
returns-in-Ok-call g c =
    swaps_so _ _ _ _ _ _ _ c.in-Ok.ensures.plan (seen_is _ (arc_value c.in-Ok.plan) c.in-Ok.ensures.text) c.swap_reply.ensures c.in-Ok-call.ensures
