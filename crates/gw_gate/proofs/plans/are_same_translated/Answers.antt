use Rattle.gw_gate.proofs.Asking.{translated_is}
use Rattle.gw_gate.proofs.plans.are_same_translated.Goals as goal

pub returns : goal.returns
returns c = translated_is c.args.translated.now c.args.other.now c.same.result c.same.ensures
