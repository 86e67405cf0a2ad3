use Rattle.gw_journal.proofs.Running.{left_at_rest, left_at_work}
use Rattle.gw_journal.proofs.laws.what_is_on_the_disk_is_left.Goals as goal

pub returns-clause-at_rest : goal.returns-clause-at_rest
returns-clause-at_rest g c = left_at_rest g.K.Summary.tells g.K.Summary.spares g.D.Disk.honest g.D.Disk.seen g.D.Disk.may_leave g.D.Disk.moment g.D.Disk.left_since

pub returns-clause-at_work : goal.returns-clause-at_work
returns-clause-at_work g c = left_at_work g.K.Summary.tells g.K.Summary.spares g.D.Disk.honest g.D.Disk.seen g.D.Disk.may_leave g.D.Disk.moment g.D.Disk.left_since
