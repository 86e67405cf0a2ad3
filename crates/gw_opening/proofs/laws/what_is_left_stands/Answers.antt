use Rattle.gw_opening.proofs.Standing.{left_stands}
use Rattle.gw_opening.proofs.laws.what_is_left_stands.Goals as goal

pub returns : goal.returns
returns g c = left_stands g.R.Rules.routes
