use Rattle.gw_gate.proofs.Asking.{source_is}
use Rattle.gw_gate.proofs.plans.are_same.Goals as goal

pub returns : goal.returns
returns c = source_is c.args.conforming.now c.args.other.now c.same.result c.same.ensures
