use Rattle.std.proofs.Common.{ℕ, List, [], ◌∷◌, ◌++◌, drop, ◌∙◌, ap, refl, arith}
use Rattle.gw_log.specs.State.{records_of}
use Rattle.gw_log.proofs.Moments.{weaker, joined, stood}
use Rattle.gw_log.proofs.Sound.{has_stands, has_begun}
use Rattle.gw_log.proofs.Turning.{begins, ends_at, closes_at, moved_staged, apart, has_turned, turns_none, end_batch, empty_short}
use Rattle.gw_log.proofs.segment.Segment.turn.Goals as goal

pub returns-in_err-bytes-clause-any_moment : goal.returns-in_err-bytes-clause-any_moment
returns-in_err-bytes-clause-any_moment g c = λ these st none.
    stood _ _ _ _ _ g.met.D.Disk.only_now (λ f may. turns_none _ these _ _ f (has_stands _ _ _ these st _ refl) none (st.staged.durable f may))

pub returns-in_err-ending-clause-any_moment : goal.returns-in_err-ending-clause-any_moment
returns-in_err-ending-clause-any_moment g c = λ these st none.
    stood _ _ _ _ _ g.met.D.Disk.only_now (λ f may. turns_none _ these _ _ f (has_stands _ _ _ these st _ refl) none (st.staged.durable f may))

pub returns-in_err-begin-clause-any_moment : goal.returns-in_err-begin-clause-any_moment
returns-in_err-begin-clause-any_moment g c =
    let next = records_of c.args.next.now in
    let fits = c.in_ok-bytes.ensures.short in
    let tail = c.behind_gate-tail.ensures ∙ ap (λ (l : List ℕ). drop 1 l) (c.deref.ensures.value ∙ c.in_ok-bytes.ensures.whole) in
    rw (← c.self.view_is) (λ these st none.
    weaker _ _ _ _ _ _ (λ f ch. begins _ these next _ f (has_stands _ _ _ these st _ refl) ch) (c.begin.ensures.any_moment next st.staged.durable none tail fits))

pub returns-in_err-put-clause-any_moment : goal.returns-in_err-put-clause-any_moment
returns-in_err-put-clause-any_moment g c =
    let next = records_of c.args.next.now in
    let fits = c.in_ok-bytes.ensures.short in
    let tail = c.behind_gate-tail.ensures ∙ ap (λ (l : List ℕ). drop 1 l) (c.deref.ensures.value ∙ c.in_ok-bytes.ensures.whole) in
    let last_bytes = end_batch _ _ (c.behind_gate.ensures ∙ ap (λ (l : List ℕ). drop 1 l) (c.deref-2.ensures.value ∙ c.in_ok-ending.ensures.whole)) c.requires.end in
    rw (← c.self.view_is) (λ these st none.
    let begun = c.in_ok-begin.ensures.ok next st.staged.durable none tail fits in
    let there = has_begun _ _ _ _ _ next begun in
    let moved = moved_staged _ _ _ _ _ _ _ _ _ st.staged (c.in_ok-begin.ensures.others _ (apart _)) begun.durable in
    let first = weaker _ _ _ _ _ _ (λ f ch. begins _ these next _ f (has_stands _ _ _ these st _ refl) ch) (c.begin.ensures.any_moment next st.staged.durable none tail fits) in
    joined _ _ _ _ _ _ first (weaker _ _ _ _ _ _
    (λ f ch. ends_at _ these st.these st.last next _ _ f st.all there c.in_ok-begin.ensures.others ch) (c.put.ensures.any_moment 0 _ _ ([] ∷ []) moved last_bytes (empty_short, tt))))

pub returns-in_err-settle-clause-any_moment : goal.returns-in_err-settle-clause-any_moment
returns-in_err-settle-clause-any_moment g c =
    let next = records_of c.args.next.now in
    let fits = c.in_ok-bytes.ensures.short in
    let tail = c.behind_gate-tail.ensures ∙ ap (λ (l : List ℕ). drop 1 l) (c.deref.ensures.value ∙ c.in_ok-bytes.ensures.whole) in
    let last_bytes = end_batch _ _ (c.behind_gate.ensures ∙ ap (λ (l : List ℕ). drop 1 l) (c.deref-2.ensures.value ∙ c.in_ok-ending.ensures.whole)) c.requires.end in
    rw (← c.self.view_is) (λ these st none.
    let begun = c.in_ok-begin.ensures.ok next st.staged.durable none tail fits in
    let there = has_begun _ _ _ _ _ next begun in
    let moved = moved_staged _ _ _ _ _ _ _ _ _ st.staged (c.in_ok-begin.ensures.others _ (apart _)) begun.durable in
    let first = weaker _ _ _ _ _ _ (λ f ch. begins _ these next _ f (has_stands _ _ _ these st _ refl) ch) (c.begin.ensures.any_moment next st.staged.durable none tail fits) in
    let second = joined _ _ _ _ _ _ first (weaker _ _ _ _ _ _
    (λ f ch. ends_at _ these st.these st.last next _ _ f st.all there c.in_ok-begin.ensures.others ch) (c.put.ensures.any_moment 0 _ _ ([] ∷ []) moved last_bytes (empty_short, tt))) in
    let ending = c.in_ok-put.ensures.ok 0 _ _ ([] ∷ []) moved last_bytes (empty_short, tt) (omega arith) in
    joined _ _ _ _ _ _ second (weaker _ _ _ _ _ _
    (λ f ch. closes_at _ these (st.these ++ st.last) next _ _ _ f st.all there c.in_ok-begin.ensures.others c.in_ok-put.ensures.others ch)
    (c.settle.ensures.any_moment _ _ ([] ∷ []) ending (omega arith))))

pub returns-clause-any_moment : goal.returns-clause-any_moment
returns-clause-any_moment g c =
    let next = records_of c.args.next.now in
    let fits = c.in_ok-bytes.ensures.short in
    let tail = c.behind_gate-tail.ensures ∙ ap (λ (l : List ℕ). drop 1 l) (c.deref.ensures.value ∙ c.in_ok-bytes.ensures.whole) in
    let last_bytes = end_batch _ _ (c.behind_gate.ensures ∙ ap (λ (l : List ℕ). drop 1 l) (c.deref-2.ensures.value ∙ c.in_ok-ending.ensures.whole)) c.requires.end in
    rw (← c.self.view_is) (λ these st none.
    let begun = c.in_ok-begin.ensures.ok next st.staged.durable none tail fits in
    let there = has_begun _ _ _ _ _ next begun in
    let moved = moved_staged _ _ _ _ _ _ _ _ _ st.staged (c.in_ok-begin.ensures.others _ (apart _)) begun.durable in
    let first = weaker _ _ _ _ _ _ (λ f ch. begins _ these next _ f (has_stands _ _ _ these st _ refl) ch) (c.begin.ensures.any_moment next st.staged.durable none tail fits) in
    let second = joined _ _ _ _ _ _ first (weaker _ _ _ _ _ _
    (λ f ch. ends_at _ these st.these st.last next _ _ f st.all there c.in_ok-begin.ensures.others ch) (c.put.ensures.any_moment 0 _ _ ([] ∷ []) moved last_bytes (empty_short, tt))) in
    let ending = c.in_ok-put.ensures.ok 0 _ _ ([] ∷ []) moved last_bytes (empty_short, tt) (omega arith) in
    joined _ _ _ _ _ _ second (weaker _ _ _ _ _ _
    (λ f ch. closes_at _ these (st.these ++ st.last) next _ _ _ f st.all there c.in_ok-begin.ensures.others c.in_ok-put.ensures.others ch)
    (c.settle.ensures.any_moment _ _ ([] ∷ []) ending (omega arith))))

pub returns-clause-ok : goal.returns-clause-ok
returns-clause-ok g c =
    let next = records_of c.args.next.now in
    let fits = c.in_ok-bytes.ensures.short in
    let tail = c.behind_gate-tail.ensures ∙ ap (λ (l : List ℕ). drop 1 l) (c.deref.ensures.value ∙ c.in_ok-bytes.ensures.whole) in
    let last_bytes = end_batch _ _ (c.behind_gate.ensures ∙ ap (λ (l : List ℕ). drop 1 l) (c.deref-2.ensures.value ∙ c.in_ok-ending.ensures.whole)) c.requires.end in
    rw (← c.self.view_is) (λ these st none.
    let begun = c.in_ok-begin.ensures.ok next st.staged.durable none tail fits in
    let moved = moved_staged _ _ _ _ _ _ _ _ _ st.staged (c.in_ok-begin.ensures.others _ (apart _)) begun.durable in
    let ending = c.in_ok-put.ensures.ok 0 _ _ ([] ∷ []) moved last_bytes (empty_short, tt) (omega arith) in
    has_turned _ _ _ _ _ _ _ these _ next begun c.in_ok-begin.ensures.others c.in_ok-put.ensures.others c.in_ok-settle.ensures.others st.all
    (c.in_ok-settle.ensures.ok _ _ ([] ∷ []) ending (omega arith)))
