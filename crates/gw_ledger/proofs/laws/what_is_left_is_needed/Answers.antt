use Rattle.gw_ledger.proofs.Needing.{left_above, left_later}
use Rattle.gw_ledger.proofs.laws.what_is_left_is_needed.Goals as goal

pub returns-clause-now : goal.returns-clause-now
returns-clause-now g c = left_above g.R.Rules.routes

pub returns-clause-later : goal.returns-clause-later
returns-clause-later g c = left_later g.R.Rules.routes
