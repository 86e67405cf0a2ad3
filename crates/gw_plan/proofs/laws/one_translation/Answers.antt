use Rattle.gw_plan.proofs.Once.{made_once}
use Rattle.gw_plan.proofs.laws.one_translation.Goals as goal

pub returns : goal.returns
returns c = made_once
