use Rattle.gw_ledger.proofs.Ledging.{lawful_part}
use Rattle.gw_ledger.proofs.laws.a_beginning_is_lawful.Goals as goal

pub returns : goal.returns
returns g c = lawful_part g.R.Rules.routes
