use Rattle.gw_journal.proofs.Running.{at_rest, at_work}
use Rattle.gw_journal.proofs.laws.a_journal_goes_on.Goals as goal

pub returns-clause-at_rest : goal.returns-clause-at_rest
returns-clause-at_rest g c = at_rest g.K.Summary.tells g.K.Summary.spares g.D.Disk.honest g.D.Disk.seen g.D.Disk.may_leave g.D.Disk.moment g.D.Disk.left_since

pub returns-clause-at_work : goal.returns-clause-at_work
returns-clause-at_work g c = at_work g.K.Summary.tells g.K.Summary.spares g.D.Disk.honest g.D.Disk.seen g.D.Disk.may_leave g.D.Disk.moment g.D.Disk.left_since
