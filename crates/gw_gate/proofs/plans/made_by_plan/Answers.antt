use Rattle.gw_gate.proofs.Asking.{makes}
use Rattle.gw_gate.proofs.plans.made_by_plan.Goals as goal

pub returns : goal.returns
returns c = makes c.args.translated.now c.message.ensures.translates c.message.ensures.plan
