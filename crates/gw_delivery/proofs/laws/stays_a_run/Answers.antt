use Rattle.gw_delivery.proofs.Calling.{stays_run}
use Rattle.gw_delivery.proofs.laws.stays_a_run.Goals as goal

pub returns : goal.returns
returns c = stays_run
