use Rattle.std.proofs.Common.{refl}
use Rattle.gw_journal.specs.Logs.{records_of}
use Rattle.gw_journal.proofs.Storing.{held_more, leaves_more}
use Rattle.gw_journal.proofs.stored.StoredStorage.put.Goals as goal

pub returns-in_err-put-clause-any_moment : goal.returns-in_err-put-clause-any_moment
returns-in_err-put-clause-any_moment g c = rw (← c.self.view_is) (λ these held.
    leaves_more g.K.Summary.tells g.K.Summary.spares g.D.Disk.honest g.D.Disk.seen g.D.Disk.may_leave g.D.Disk.moment g.D.Disk.left_since (record { log = c.self.inside.log; id = c.self.inside.id }) (record { log = c.put.new.self; id = c.self.inside.id }) these (records_of c.args.batch.now)
    refl c.put.ensures.back held c.put.ensures.any_moment)

pub returns-clause-ok : goal.returns-clause-ok
returns-clause-ok g c = rw (← c.self.view_is) (λ these held.
    held_more g.K.Summary.tells g.K.Summary.spares g.D.Disk.honest g.D.Disk.seen g.D.Disk.may_leave g.D.Disk.moment g.D.Disk.left_since (record { log = c.self.inside.log; id = c.self.inside.id }) (record { log = c.put.new.self; id = c.self.inside.id }) these (records_of c.args.batch.now)
    refl c.put.ensures.back held c.in_ok-put.ensures.ok)

pub returns-clause-any_moment : goal.returns-clause-any_moment
returns-clause-any_moment g c = rw (← c.self.view_is) (λ these held.
    leaves_more g.K.Summary.tells g.K.Summary.spares g.D.Disk.honest g.D.Disk.seen g.D.Disk.may_leave g.D.Disk.moment g.D.Disk.left_since (record { log = c.self.inside.log; id = c.self.inside.id }) (record { log = c.put.new.self; id = c.self.inside.id }) these (records_of c.args.batch.now)
    refl c.put.ensures.back held c.put.ensures.any_moment)
