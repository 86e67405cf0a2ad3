use Rattle.std.proofs.Common.{◌≤◌, inl, ap, refl, arith}
use Rattle.gw_log.specs.State.{records_of}
use Rattle.gw_log.specs.Chain.{LogState}
use Rattle.gw_log.proofs.Moments.{weaker, stood}
use Rattle.gw_log.proofs.Logs.{log_as_is}
use Rattle.gw_log.proofs.Turning.{log_then, holds_then, next_given, nothing_next}
use Rattle.gw_log.proofs.log.Log.go_on.Goals as goal

pub returns-in_err-next-clause-any_moment : goal.returns-in_err-next-clause-any_moment
returns-in_err-next-clause-any_moment g c = λ from head these h.
    stood _ _ _ _ _ g.met.D.Disk.only_now (λ f may. inl (log_as_is _ _ _ from head these h f (h.stands.staged.durable f may)))

pub returns-in_err-end-clause-any_moment : goal.returns-in_err-end-clause-any_moment
returns-in_err-end-clause-any_moment g c = λ from head these h.
    stood _ _ _ _ _ g.met.D.Disk.only_now (λ f may. inl (log_as_is _ _ _ from head these h f (h.stands.staged.durable f may)))

pub returns-in_err-follow-clause-any_moment : goal.returns-in_err-follow-clause-any_moment
returns-in_err-follow-clause-any_moment g c =
    let le : c.self.inside.keep ≤ c.args.keep = omega (arith, c.requires, ap (λ (s : LogState g.row.D.Denot). s.keep) c.self.view_is) in
    let next = next_given _ _ _ _ _ _ c.self.view_is (ap records_of c.deref.ensures.value) c.in_ok-next.ensures.ok in
    rw (← c.self.view_is) (λ from head these h.
    weaker _ _ _ _ _ _ (λ f turns. log_then _ _ _ from head these h _ _ _ next le f turns)
    (c.follow.ensures.any_moment _ h.stands (nothing_next _ _ _ from head these h)))

pub returns-clause-any_moment : goal.returns-clause-any_moment
returns-clause-any_moment g c =
    let le : c.self.inside.keep ≤ c.args.keep = omega (arith, c.requires, ap (λ (s : LogState g.row.D.Denot). s.keep) c.self.view_is) in
    let next = next_given _ _ _ _ _ _ c.self.view_is (ap records_of c.deref.ensures.value) c.in_ok-next.ensures.ok in
    rw (← c.self.view_is) (λ from head these h.
    weaker _ _ _ _ _ _ (λ f turns. log_then _ _ _ from head these h _ _ _ next le f turns)
    (c.follow.ensures.any_moment _ h.stands (nothing_next _ _ _ from head these h)))

pub returns-clause-ok : goal.returns-clause-ok
returns-clause-ok g c =
    let le : c.self.inside.keep ≤ c.args.keep = omega (arith, c.requires, ap (λ (s : LogState g.row.D.Denot). s.keep) c.self.view_is) in
    let next = next_given _ _ _ _ _ _ c.self.view_is (ap records_of c.deref.ensures.value) c.in_ok-next.ensures.ok in
    rw (← c.self.view_is) (λ from head these h.
    let none = nothing_next _ _ _ from head these h in
    let ended = c.in_ok-follow.ensures.ended _ h.stands none in
    holds_then _ _ _ from head these h _ _ _ next le _ (c.in_ok-follow.ensures.stands _ h.stands none) c.in_ok-follow.ensures.number ended.file ended.others
    refl refl refl refl refl)
