use Rattle.std.proofs.Common.{refl}
use Rattle.gw_journal.proofs.Storing.{held_fewer, leaves_fewer}
use Rattle.gw_journal.proofs.stored.StoredStorage.retire.Goals as goal

pub returns-in_err-done-clause-any_moment : goal.returns-in_err-done-clause-any_moment
returns-in_err-done-clause-any_moment g c = rw (← c.self.view_is) (λ these held.
    leaves_fewer g.K.Summary.tells g.K.Summary.spares g.D.Disk.honest g.D.Disk.seen g.D.Disk.may_leave g.D.Disk.moment g.D.Disk.left_since (record { log = c.self.inside.log; id = c.self.inside.id }) (record { log = c.retire.new.self; id = c.self.inside.id }) these
    refl c.retire.ensures.back held c.retire.ensures.any_moment)

pub returns-clause-ok : goal.returns-clause-ok
returns-clause-ok g c = rw (← c.self.view_is) (λ these held.
    held_fewer g.K.Summary.tells g.K.Summary.spares g.D.Disk.honest g.D.Disk.seen g.D.Disk.may_leave g.D.Disk.moment g.D.Disk.left_since (record { log = c.self.inside.log; id = c.self.inside.id }) (record { log = c.retire.new.self; id = c.self.inside.id }) these c.in_ok-done.done
    refl c.retire.ensures.back held c.in_ok-done.ensures.ok)

pub returns-clause-any_moment : goal.returns-clause-any_moment
returns-clause-any_moment g c = rw (← c.self.view_is) (λ these held.
    leaves_fewer g.K.Summary.tells g.K.Summary.spares g.D.Disk.honest g.D.Disk.seen g.D.Disk.may_leave g.D.Disk.moment g.D.Disk.left_since (record { log = c.self.inside.log; id = c.self.inside.id }) (record { log = c.retire.new.self; id = c.self.inside.id }) these
    refl c.retire.ensures.back held c.retire.ensures.any_moment)
