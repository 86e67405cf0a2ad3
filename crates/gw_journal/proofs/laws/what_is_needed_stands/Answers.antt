use Rattle.gw_journal.proofs.Running.{stands_needed}
use Rattle.gw_journal.proofs.laws.what_is_needed_stands.Goals as goal

pub returns-clause-stands : goal.returns-clause-stands
returns-clause-stands g c = stands_needed g.K.Summary.tells g.K.Summary.spares

pub returns-clause-spared : goal.returns-clause-spared
returns-clause-spared g c = λ id files all k. k.covers.spared
