use Rattle.gw_due.proofs.Deciding.{decides}
use Rattle.gw_due.proofs.laws.a_state_decides.Goals as goal

pub returns : goal.returns
returns g c = decides g.R.Rules.routes
