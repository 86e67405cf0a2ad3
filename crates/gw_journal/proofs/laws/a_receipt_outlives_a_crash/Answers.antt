use Rattle.gw_journal.proofs.Running.{receipt_outlives, receipt_stays}
use Rattle.gw_journal.proofs.laws.a_receipt_outlives_a_crash.Goals as goal

pub returns-clause-at_rest : goal.returns-clause-at_rest
returns-clause-at_rest g c = receipt_outlives g.K.Summary.tells g.K.Summary.spares g.D.Disk.honest g.D.Disk.seen g.D.Disk.may_leave g.D.Disk.moment g.D.Disk.left_since

pub returns-clause-at_work : goal.returns-clause-at_work
returns-clause-at_work g c = receipt_stays g.K.Summary.tells g.K.Summary.spares g.D.Disk.honest g.D.Disk.seen g.D.Disk.may_leave g.D.Disk.moment g.D.Disk.left_since
