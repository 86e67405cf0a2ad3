use Rattle.std.proofs.Common.{List, ℕ, refl, length, sym, subst, ◌∙◌}
use Rattle.std.specs.List.Sorted.{IsStrictlyIncreasing}
use Rattle.gw_reorder.specs.declared.desk.Status.TheVariants.{Waiting, Repeat, Stranger}
use Rattle.gw_reorder.proofs.desk.Desk.hold.Goals as goal
use Rattle.gw_reorder.proofs.Slots.{place_here, in_window, stranger, released, repeated, waits, answered, left, kept}

pub place_among-requires : goal.place_among-requires
place_among-requires g c = record { rising = subst (λ (xs : List ℕ). IsStrictlyIncreasing xs) (sym c.deref.ensures.value) c.self.invariant.rising }

pub overflow_sub-slot : goal.overflow_sub-slot
overflow_sub-slot g c = c.if-place-self.false

pub index-requires : goal.index-requires
index-requires g c =
    let d = c.self.inside in
    let here = place_here c.args.n _ d.due.items _ _ c.deref.ensures.value c.place_among.ensures c.in-Some.is in
    in_window d.due.items c.args.n c.in-Some.place d.released _ _ _ here c.if-place-self.false c.self.invariant.places d.due.ok.0 refl

pub index_mut-requires : goal.index_mut-requires
index_mut-requires g c =
    let d = c.self.inside in
    let here = place_here c.args.n _ d.due.items _ _ c.deref.ensures.value c.place_among.ensures c.in-Some.is in
    in_window d.due.items c.args.n c.in-Some.place d.released _ _ _ here c.if-place-self.false c.self.invariant.places d.due.ok.0 refl

pub invariant_of-self : goal.invariant_of-self
invariant_of-self g c = c.self.invariant

pub returns-in_default-clause-answer : goal.returns-in_default-clause-answer
returns-in_default-clause-answer g c =
    let d = c.self.inside in
    let here = place_here c.args.n _ d.due.items _ _ c.deref.ensures.value c.place_among.ensures c.in_default.is in
    answered c.args.self.now c.args.n c.args.value Stranger (stranger c.self.view_is c.args.n here)

pub returns-in_default-clause-left : goal.returns-in_default-clause-left
returns-in_default-clause-left g c =
    let d = c.self.inside in
    let here = place_here c.args.n _ d.due.items _ _ c.deref.ensures.value c.place_among.ensures c.in_default.is in
    left c.args.self.now c.args.n c.args.value Stranger (stranger c.self.view_is c.args.n here)

pub returns-then-place-self-clause-answer : goal.returns-then-place-self-clause-answer
returns-then-place-self-clause-answer g c =
    let d = c.self.inside in
    let here = place_here c.args.n _ d.due.items _ _ c.deref.ensures.value c.place_among.ensures c.in-Some.is in
    answered c.args.self.now c.args.n c.args.value Repeat (released c.self.view_is c.args.n c.in-Some.place here c.if-place-self.true)

pub returns-then-place-self-clause-left : goal.returns-then-place-self-clause-left
returns-then-place-self-clause-left g c =
    let d = c.self.inside in
    let here = place_here c.args.n _ d.due.items _ _ c.deref.ensures.value c.place_among.ensures c.in-Some.is in
    left c.args.self.now c.args.n c.args.value Repeat (released c.self.view_is c.args.n c.in-Some.place here c.if-place-self.true)

pub returns-then-is_some-clause-answer : goal.returns-then-is_some-clause-answer
returns-then-is_some-clause-answer g c =
    let d = c.self.inside in
    let here = place_here c.args.n _ d.due.items _ _ c.deref.ensures.value c.place_among.ensures c.in-Some.is in
    let inside = in_window d.due.items c.args.n c.in-Some.place d.released _ _ (length d.waiting.items) here c.if-place-self.false c.self.invariant.places d.due.ok.0 d.waiting.ok.0 in
    answered c.args.self.now c.args.n c.args.value Repeat (repeated c.self.view_is c.args.n c.in-Some.place c.index.result.now here c.if-place-self.false inside c.index.ensures (sym c.is_some.ensures ∙ c.if-is_some.true))

pub returns-then-is_some-clause-left : goal.returns-then-is_some-clause-left
returns-then-is_some-clause-left g c =
    let d = c.self.inside in
    let here = place_here c.args.n _ d.due.items _ _ c.deref.ensures.value c.place_among.ensures c.in-Some.is in
    let inside = in_window d.due.items c.args.n c.in-Some.place d.released _ _ (length d.waiting.items) here c.if-place-self.false c.self.invariant.places d.due.ok.0 d.waiting.ok.0 in
    left c.args.self.now c.args.n c.args.value Repeat (repeated c.self.view_is c.args.n c.in-Some.place c.index.result.now here c.if-place-self.false inside c.index.ensures (sym c.is_some.ensures ∙ c.if-is_some.true))

pub returns-clause-answer : goal.returns-clause-answer
returns-clause-answer g c =
    let d = c.self.inside in
    let here = place_here c.args.n _ d.due.items _ _ c.deref.ensures.value c.place_among.ensures c.in-Some.is in
    let inside = in_window d.due.items c.args.n c.in-Some.place d.released _ _ (length d.waiting.items) here c.if-place-self.false c.self.invariant.places d.due.ok.0 d.waiting.ok.0 in
    answered c.args.self.now c.args.n c.args.value Waiting (waits c.self.view_is c.args.n c.in-Some.place c.index.result.now here c.if-place-self.false inside c.index.ensures (sym c.is_some.ensures ∙ c.if-is_some.false))

pub returns-clause-left : goal.returns-clause-left
returns-clause-left g c =
    let d = c.self.inside in
    let here = place_here c.args.n _ d.due.items _ _ c.deref.ensures.value c.place_among.ensures c.in-Some.is in
    let inside = in_window d.due.items c.args.n c.in-Some.place d.released _ _ (length d.waiting.items) here c.if-place-self.false c.self.invariant.places d.due.ok.0 d.waiting.ok.0 in
    kept c.self.view_is c.args.n c.in-Some.place c.args.value here (waits c.self.view_is c.args.n c.in-Some.place c.index.result.now here c.if-place-self.false inside c.index.ensures (sym c.is_some.ensures ∙ c.if-is_some.false))
