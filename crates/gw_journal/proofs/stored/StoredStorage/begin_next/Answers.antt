use Rattle.std.proofs.Common.{refl}
use Rattle.gw_journal.proofs.Storing.{held_next, leaves_next}
use Rattle.gw_journal.proofs.stored.StoredStorage.begin_next.Goals as goal

pub returns-in_err-begin_next-clause-any_moment : goal.returns-in_err-begin_next-clause-any_moment
returns-in_err-begin_next-clause-any_moment g c = rw (← c.self.view_is) (λ these held told spared.
    leaves_next g.K.Summary.tells g.K.Summary.spares g.D.Disk.honest g.D.Disk.seen g.D.Disk.may_leave g.D.Disk.moment g.D.Disk.left_since (record { log = c.self.inside.log; id = c.self.inside.id }) (record { log = c.begin_next.new.self; id = c.self.inside.id }) these
    c.args.keep c.args.checkpoint.now refl c.begin_next.ensures.back told spared held c.begin_next.ensures.any_moment)

pub returns-clause-ok : goal.returns-clause-ok
returns-clause-ok g c = rw (← c.self.view_is) (λ these held told spared.
    held_next g.K.Summary.tells g.K.Summary.spares g.D.Disk.honest g.D.Disk.seen g.D.Disk.may_leave g.D.Disk.moment g.D.Disk.left_since (record { log = c.self.inside.log; id = c.self.inside.id }) (record { log = c.begin_next.new.self; id = c.self.inside.id }) these
    c.args.keep c.args.checkpoint.now refl c.begin_next.ensures.back told spared held c.in_ok-begin_next.ensures.ok)

pub returns-clause-any_moment : goal.returns-clause-any_moment
returns-clause-any_moment g c = rw (← c.self.view_is) (λ these held told spared.
    leaves_next g.K.Summary.tells g.K.Summary.spares g.D.Disk.honest g.D.Disk.seen g.D.Disk.may_leave g.D.Disk.moment g.D.Disk.left_since (record { log = c.self.inside.log; id = c.self.inside.id }) (record { log = c.begin_next.new.self; id = c.self.inside.id }) these
    c.args.keep c.args.checkpoint.now refl c.begin_next.ensures.back told spared held c.begin_next.ensures.any_moment)
