use Rattle.std.proofs.Common.{◌+◌, ◌∷◌, [], sym, arith}
use Rattle.std.specs.FinMap as texts
use Rattle.gw_er7.specs.Message.{numbers}
use Rattle.gw_validate.proofs.Walks.{start_at, start_end, not_less_then}
use Rattle.gw_validate.proofs.cursor.first_behind.Goals as goal

pub returns-then-not-is_up_to-clause-start : goal.returns-then-not-is_up_to-clause-start
returns-then-not-is_up_to-clause-start c =
    let key = c.args.field ∷ (c.args.rep + 1) ∷ 0 ∷ 0 ∷ [] in
    let es = texts.entries c.args.segment.now.at in
    start_at key es c.loop-value.at (numbers c.in-Some.value.place, c.in-Some.value.text.now) (texts.entries_sorted c.args.segment.now.at) c.loop-value.invariant c.in-Some.ensures.value (not_less_then _ (sym c.if-not-is_up_to.ensures))

pub returns-clause-start : goal.returns-clause-start
returns-clause-start c =
    let key = c.args.field ∷ (c.args.rep + 1) ∷ 0 ∷ 0 ∷ [] in
    start_end key (texts.entries c.args.segment.now.at) c.loop-value.at c.loop-value.invariant (omega (arith, c.in_default.ensures.there))

pub returns-then-not-is_up_to-clause-value : goal.returns-then-not-is_up_to-clause-value
returns-then-not-is_up_to-clause-value c = record { within = omega (arith, c.in-Some.ensures.there); is = c.in-Some.ensures.value; room = omega (arith, c.in-Some.ensures.there, c.value_count-count.ensures.count) }

pub returns-clause-value : goal.returns-clause-value
returns-clause-value c = omega (arith, c.in_default.ensures.there)
