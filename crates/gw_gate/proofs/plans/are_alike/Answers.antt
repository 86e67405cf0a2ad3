use Rattle.gw_gate.proofs.Asking.{alike_is}
use Rattle.gw_gate.proofs.plans.are_alike.Goals as goal

pub returns : goal.returns
returns c = alike_is c.args.plan.now c.args.other.now c.same_receivers.result c.same_receivers.ensures
