use Rattle.gw_reorder.proofs.Runs.{given_in_order}
use Rattle.gw_reorder.proofs.laws.values_are_given_in_order.Goals as goal

pub returns : goal.returns
returns g c = given_in_order
