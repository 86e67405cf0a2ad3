use Rattle.gw_opening.proofs.Reading.{found_again}
use Rattle.gw_opening.proofs.laws.a_log_is_found_again.Goals as goal

pub returns : goal.returns
returns g c = found_again g.R.Rules.routes
