use Rattle.gw_ledger.proofs.Ledging.{left_lawful}
use Rattle.gw_ledger.proofs.laws.what_is_left_is_lawful.Goals as goal

pub returns : goal.returns
returns g c = left_lawful g.R.Rules.routes
