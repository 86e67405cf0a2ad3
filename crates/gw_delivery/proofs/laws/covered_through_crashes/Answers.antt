use Rattle.gw_delivery.proofs.Crashing.{covered}
use Rattle.gw_delivery.proofs.laws.covered_through_crashes.Goals as goal

pub returns : goal.returns
returns g c = covered g.R.Rules.routes
