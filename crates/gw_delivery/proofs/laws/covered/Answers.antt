use Rattle.gw_delivery.proofs.Calling.{all_covered}
use Rattle.gw_delivery.proofs.laws.covered.Goals as goal

pub returns : goal.returns
returns g c = λ receiver old new calls is. all_covered g.J.Naming.before receiver g.R.Rules.routes old new calls is
