use Rattle.gw_due.proofs.Stating.{stands}
use Rattle.gw_due.proofs.laws.a_state_tells.Goals as goal

pub returns : goal.returns
returns g c = λ log lawful. (stands g.R.Rules.routes log lawful).says
