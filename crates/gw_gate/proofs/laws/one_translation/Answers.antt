use Rattle.gw_gate.proofs.Asking.{makes_once}
use Rattle.gw_gate.proofs.laws.one_translation.Goals as goal

pub returns : goal.returns
returns c = makes_once
