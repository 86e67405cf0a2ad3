use Rattle.std.proofs.Common.{◌∙◌, ap, List, ℕ, drop, refl, arith}
use Rattle.gw_log.proofs.Moments.{stood}
use Rattle.gw_log.proofs.Sound.{secured, file_left, file_stood}
use Rattle.gw_log.proofs.segment.Segment.put.Goals as goal

pub returns-in-Ok-clause-ok : goal.returns-in-Ok-clause-ok
returns-in-Ok-clause-ok g c =
    let tail = c.behind_gate-tail.ensures ∙ ap (λ (l : List ℕ). drop 1 l) (c.deref.ensures.value ∙ c.in_ok-bytes.ensures.whole) in
    rw (← c.self.view_is) (λ these st. secured _ _ _ _ these _ 0 st refl (c.in-Ok.ensures.ok 2 _ _ _ st.staged tail c.in_ok-bytes.ensures.short (omega arith)))

pub returns-in-Ok-clause-any_moment : goal.returns-in-Ok-clause-any_moment
returns-in-Ok-clause-any_moment g c =
    let tail = c.behind_gate-tail.ensures ∙ ap (λ (l : List ℕ). drop 1 l) (c.deref.ensures.value ∙ c.in_ok-bytes.ensures.whole) in
    rw (← c.self.view_is) (λ these st. file_left _ _ _ _ _ _ _ these _ st (c.put.ensures.any_moment 2 _ _ _ st.staged tail c.in_ok-bytes.ensures.short))

pub returns-clause-any_moment : goal.returns-clause-any_moment
returns-clause-any_moment g c =
    let tail = c.behind_gate-tail.ensures ∙ ap (λ (l : List ℕ). drop 1 l) (c.deref.ensures.value ∙ c.in_ok-bytes.ensures.whole) in
    rw (← c.self.view_is) (λ these st. file_left _ _ _ _ _ _ _ these _ st (c.put.ensures.any_moment 2 _ _ _ st.staged tail c.in_ok-bytes.ensures.short))

pub returns-then-self-ge-MOST-clause-any_moment : goal.returns-then-self-ge-MOST-clause-any_moment
returns-then-self-ge-MOST-clause-any_moment g c =
    rw (← c.self.view_is) (λ these st. stood _ _ _ _ _ g.met.D.Disk.only_now (file_stood _ _ _ these _ st))

pub returns-in_err-bytes-clause-any_moment : goal.returns-in_err-bytes-clause-any_moment
returns-in_err-bytes-clause-any_moment g c =
    rw (← c.self.view_is) (λ these st. stood _ _ _ _ _ g.met.D.Disk.only_now (file_stood _ _ _ these _ st))
