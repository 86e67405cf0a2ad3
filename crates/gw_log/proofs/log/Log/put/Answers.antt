use Rattle.std.proofs.Common.{ℕ, ◌+◌, refl, sym, ap}
use Rattle.std.specs.Prelude.{Vec}
use Rattle.std.specs.declared.alloc.Global.{Global}
use Rattle.std.proofs.lemmas.List.{length-map}
use Rattle.gw_log.proofs.Moments.{weaker, stood}
use Rattle.gw_log.proofs.Logs.{either_of, either_so, holds_more}
use Rattle.gw_log.proofs.log.Log.put.Goals as goal

pub returns-in_err-test_batch-clause-any_moment : goal.returns-in_err-test_batch-clause-any_moment
returns-in_err-test_batch-clause-any_moment g c = λ from head these h.
    stood _ _ _ _ _ g.met.D.Disk.only_now (either_so _ _ _ from head these h _)

pub returns-in_err-put-clause-any_moment : goal.returns-in_err-put-clause-any_moment
returns-in_err-put-clause-any_moment g c =
    rw (← c.self.view_is) (λ from head these h.
    weaker _ _ _ _ _ _ (λ f changes. either_of _ _ _ from head these h _ c.in_ok-test_batch.ensures.some f changes) (c.put.ensures.any_moment _ h.stands))

pub returns-clause-any_moment : goal.returns-clause-any_moment
returns-clause-any_moment g c =
    rw (← c.self.view_is) (λ from head these h.
    weaker _ _ _ _ _ _ (λ f changes. either_of _ _ _ from head these h _ c.in_ok-test_batch.ensures.some f changes) (c.put.ensures.any_moment _ h.stands))

pub returns-clause-ok : goal.returns-clause-ok
returns-clause-ok g c =
    let count = ap (λ (n : ℕ). c.self.inside.count + n) (sym (length-map c.args.batch.now (λ (v : Vec ℕ Global). v.items))) in
    rw (← c.self.view_is) (λ from head these h.
    holds_more _ _ _ from head these h _ _ (c.in_ok-put.ensures.ok _ h.stands) c.in_ok-test_batch.ensures.some c.put.ensures.number c.in_ok-put.ensures.others
    refl refl count refl refl)
