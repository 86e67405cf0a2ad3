use Rattle.gw_journal.proofs.Running.{stands_or_gone}
use Rattle.gw_journal.proofs.laws.it_stands_or_is_gone.Goals as goal

pub returns : goal.returns
returns g c = stands_or_gone g.K.Summary.tells g.K.Summary.spares
