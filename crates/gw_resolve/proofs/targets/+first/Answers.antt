use Rattle.gw_resolve.proofs.Labels.{first_missing}
use Rattle.gw_resolve.proofs.targets.+first.Goals as goal

pub first_of-loop-item-preserved : goal.first_of-loop-item-preserved
first_of-loop-item-preserved t c =
    first_missing c.first_of_item-first.result _ _ _ _ c.if-is_some.ensures c.loop-item-test.true c.item-item.is c.loop-item.invariant c.first_of_item-first.ensures
