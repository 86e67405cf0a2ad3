use Rattle.std.proofs.Common.{◌∙◌, sym}
use Rattle.gw_plan.proofs.Routes.{accepted_some}
use Rattle.gw_plan.proofs.plan.accepts.Goals as goal

pub returns-else-is_empty : goal.returns-else-is_empty
returns-else-is_empty c = c.has.ensures ∙ accepted_some c.args.words.now c.args.text.now (sym c.is_empty.ensures ∙ c.if-is_empty.false)
