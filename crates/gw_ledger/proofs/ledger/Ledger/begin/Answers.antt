use Rattle.gw_ledger.proofs.Ledging.{none_yet}
use Rattle.gw_ledger.proofs.ledger.Ledger.begin.Goals as goal

pub open-requires-clause-state : goal.open-requires-clause-state
open-requires-clause-state g c = none_yet g.R.Rules.routes g.J.Naming.before c.new.result c.requires.before c.new.ensures
