use Rattle.std.proofs.Common.{◌≡◌, ◌≢◌, true, inl, refl, ap, subst, rules, arith}
use Rattle.gw_log.specs.Chain.{IsLogOrFewer, LogState}
use Rattle.gw_log.proofs.Moments.{joined, weaker}
use Rattle.gw_log.proofs.Logs.{log_as_is}
use Rattle.gw_log.proofs.Retiring.{behind_on, held_on, next_on, opened_on, reads_on, retired, shortened}
use Rattle.gw_log.proofs.log.Log.retire.Goals as goal

pub returns-in_err-may-clause-any_moment : goal.returns-in_err-may-clause-any_moment
returns-in_err-may-clause-any_moment g c = λ honest from head these h.
    weaker _ _ _ _ _ _ (λ f may. inl (log_as_is _ _ c.args.self.now from head these h f (h.stands.staged.durable f may))) c.may_go.ensures.reads.moments

pub returns-then-not-may-clause-any_moment : goal.returns-then-not-may-clause-any_moment
returns-then-not-may-clause-any_moment g c = λ honest from head these h.
    weaker _ _ _ _ _ _ (λ f may. inl (log_as_is _ _ c.args.self.now from head these h f (h.stands.staged.durable f may))) c.may_go.ensures.reads.moments

pub returns-then-not-may-clause-ok : goal.returns-then-not-may-clause-ok
returns-then-not-may-clause-ok g c = λ honest.
    held_on g.D.Disk.seen g.D.Disk.may_leave g.D.Disk.moment g.D.Disk.left_since g.D.Disk.honest c.args.self.now c.may_go.new.self c.in_ok-may.ensures.kept
    c.may_go.ensures.reads

pub returns-then-not-may-clause-none : goal.returns-then-not-may-clause-none
returns-then-not-may-clause-none g c = λ _. c.in_ok-may.ensures.kept

pub returns-then-not-may-clause-none_seen : goal.returns-then-not-may-clause-none_seen
returns-then-not-may-clause-none_seen g c = λ _. c.may_go.ensures.reads.same

pub returns-in_err-remove-clause-any_moment : goal.returns-in_err-remove-clause-any_moment
returns-in_err-remove-clause-any_moment g c = λ honest from head these h.
    let s = c.args.self.now in
    let x = c.may_go.new.self in
    let y : LogState g.row.D.Denot = record { segment = c.self.inside.segment; id = c.self.inside.id; first = c.self.inside.first; count = c.self.inside.count; keep = c.self.inside.keep; least = c.self.inside.least } in
    let must : c.in_ok-may.may ≡ true = search rules in
    let on = opened_on s x y c.self.view_is c.in_ok-may.ensures.kept in
    let reads = reads_on g.D.Disk.seen g.D.Disk.may_leave g.D.Disk.moment g.D.Disk.left_since g.D.Disk.honest s x y c.self.view_is c.may_go.ensures.reads in
    let held = held_on g.D.Disk.seen g.D.Disk.may_leave g.D.Disk.moment g.D.Disk.left_since g.D.Disk.honest s y on reads in
    let below = behind_on g.D.Disk.seen g.D.Disk.may_leave g.D.Disk.moment g.D.Disk.left_since g.D.Disk.honest s y on reads (c.in_ok-may.ensures.behind must) in
    let next = next_on g.D.Disk.seen g.D.Disk.may_leave g.D.Disk.moment g.D.Disk.left_since g.D.Disk.honest s y on reads
    (c.in_ok-may.ensures.next (subst (λ (z : LogState g.row.D.Denot). g.D.Disk.honest z.segment.disk) c.self.view_is (c.remove.ensures.back honest)) must) in
    joined _ _ _ _ _ _ (weaker _ _ _ _ _ _ (λ f may. inl (log_as_is _ _ s from head these h f (h.stands.staged.durable f may))) reads.moments)
    (weaker _ _ _ _ _ _ (λ f changes. subst (λ n. IsLogOrFewer n from head these f) (ap (λ (z : LogState g.row.D.Denot). z.id) on)
    (shortened _ _ y from head these (held from head these h) below next f changes))
    (c.remove.ensures.any_moment _ (held from head these h).stands))

pub returns-clause-any_moment : goal.returns-clause-any_moment
returns-clause-any_moment g c = λ honest from head these h.
    let s = c.args.self.now in
    let x = c.may_go.new.self in
    let y : LogState g.row.D.Denot = record { segment = c.self.inside.segment; id = c.self.inside.id; first = c.self.inside.first; count = c.self.inside.count; keep = c.self.inside.keep; least = c.self.inside.least } in
    let must : c.in_ok-may.may ≡ true = search rules in
    let on = opened_on s x y c.self.view_is c.in_ok-may.ensures.kept in
    let reads = reads_on g.D.Disk.seen g.D.Disk.may_leave g.D.Disk.moment g.D.Disk.left_since g.D.Disk.honest s x y c.self.view_is c.may_go.ensures.reads in
    let held = held_on g.D.Disk.seen g.D.Disk.may_leave g.D.Disk.moment g.D.Disk.left_since g.D.Disk.honest s y on reads in
    let below = behind_on g.D.Disk.seen g.D.Disk.may_leave g.D.Disk.moment g.D.Disk.left_since g.D.Disk.honest s y on reads (c.in_ok-may.ensures.behind must) in
    let next = next_on g.D.Disk.seen g.D.Disk.may_leave g.D.Disk.moment g.D.Disk.left_since g.D.Disk.honest s y on reads
    (c.in_ok-may.ensures.next (subst (λ (z : LogState g.row.D.Denot). g.D.Disk.honest z.segment.disk) c.self.view_is (c.remove.ensures.back honest)) must) in
    joined _ _ _ _ _ _ (weaker _ _ _ _ _ _ (λ f may. inl (log_as_is _ _ s from head these h f (h.stands.staged.durable f may))) reads.moments)
    (weaker _ _ _ _ _ _ (λ f changes. subst (λ n. IsLogOrFewer n from head these f) (ap (λ (z : LogState g.row.D.Denot). z.id) on)
    (shortened _ _ y from head these (held from head these h) below next f changes))
    (c.remove.ensures.any_moment _ (held from head these h).stands))

pub returns-clause-ok : goal.returns-clause-ok
returns-clause-ok g c = λ honest from head these h.
    let s = c.args.self.now in
    let x = c.may_go.new.self in
    let y : LogState g.row.D.Denot = record { segment = c.self.inside.segment; id = c.self.inside.id; first = c.self.inside.first; count = c.self.inside.count; keep = c.self.inside.keep; least = c.self.inside.least } in
    let must : c.in_ok-may.may ≡ true = search rules in
    let on = opened_on s x y c.self.view_is c.in_ok-may.ensures.kept in
    let reads = reads_on g.D.Disk.seen g.D.Disk.may_leave g.D.Disk.moment g.D.Disk.left_since g.D.Disk.honest s x y c.self.view_is c.may_go.ensures.reads in
    let held = held_on g.D.Disk.seen g.D.Disk.may_leave g.D.Disk.moment g.D.Disk.left_since g.D.Disk.honest s y on reads in
    let below = behind_on g.D.Disk.seen g.D.Disk.may_leave g.D.Disk.moment g.D.Disk.left_since g.D.Disk.honest s y on reads (c.in_ok-may.ensures.behind must) in
    let next = next_on g.D.Disk.seen g.D.Disk.may_leave g.D.Disk.moment g.D.Disk.left_since g.D.Disk.honest s y on reads
    (c.in_ok-may.ensures.next (subst (λ (z : LogState g.row.D.Denot). g.D.Disk.honest z.segment.disk) c.self.view_is (c.remove.ensures.back honest)) must) in
    let apart : c.self.inside.least ≢ c.self.inside.segment.number = λ is. omega (arith, is, below) in
    let here = held from head these h in
    retired _ _ y from head these here below next _ (c.in_ok-remove.ensures.stands _ here.stands apart) c.remove.ensures.number c.in_ok-remove.ensures.removed
    refl refl refl refl refl

pub returns-clause-next : goal.returns-clause-next
returns-clause-next g c = λ honest done.
    let must : c.in_ok-may.may ≡ true = search rules in
    c.in_ok-may.ensures.next (subst (λ (z : LogState g.row.D.Denot). g.D.Disk.honest z.segment.disk) c.self.view_is (c.remove.ensures.back honest)) must

pub returns-in_err-remove-clause-back : goal.returns-in_err-remove-clause-back
returns-in_err-remove-clause-back g c = λ honest. c.may_go.ensures.reads.back (subst (λ (z : LogState g.row.D.Denot). g.D.Disk.honest z.segment.disk) c.self.view_is (c.remove.ensures.back honest))

pub returns-clause-back : goal.returns-clause-back
returns-clause-back g c = λ honest. c.may_go.ensures.reads.back (subst (λ (z : LogState g.row.D.Denot). g.D.Disk.honest z.segment.disk) c.self.view_is (c.remove.ensures.back honest))
