use Rattle.gw_journal.specs.own.Laws.{crash_leaves}
use Rattle.gw_journal.proofs.laws.what_counts_is_left.Goals as goal

pub returns : goal.returns
returns g c = crash_leaves g.K.Summary.tells g.K.Summary.spares g.D.Disk.honest g.D.Disk.seen g.D.Disk.may_leave g.D.Disk.moment g.D.Disk.left_since
