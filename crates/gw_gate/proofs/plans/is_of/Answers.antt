use Rattle.gw_gate.proofs.Asking.{source_is}
use Rattle.gw_gate.proofs.plans.is_of.Goals as goal

pub returns : goal.returns
returns c = source_is c.args.translated.now.source c.args.conforming.now c.same_source.result c.same_source.ensures
