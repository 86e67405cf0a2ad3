use Rattle.std.proofs.Common.{◌∷◌, [], arith}
use Rattle.std.specs.FinMap as texts
use Rattle.gw_er7.specs.Message.{numbers}
use Rattle.gw_validate.proofs.Walks.{start_end, before_more}
use Rattle.gw_validate.proofs.Nexts.{below_field, field_start}
use Rattle.gw_validate.proofs.cursor.first_of.Goals as goal

pub returns-then-value-field-clause-start : goal.returns-then-value-field-clause-start
returns-then-value-field-clause-start c =
    let p = c.in-Some.value.place in
    field_start c.args.segment.now c.args.field c.loop-value.at c.value_count-count.ensures.segment c.loop-value.invariant p.field p.rep p.comp p.sub c.in-Some.value.text.now c.in-Some.ensures.value c.if-value-field.true

pub returns-clause-start : goal.returns-clause-start
returns-clause-start c = start_end (c.args.field ∷ 1 ∷ 0 ∷ 0 ∷ []) (texts.entries c.args.segment.now.at) c.loop-value.at c.loop-value.invariant (omega (arith, c.in_default.ensures.there))

pub returns-then-value-field-clause-value : goal.returns-then-value-field-clause-value
returns-then-value-field-clause-value c = record { within = omega (arith, c.in-Some.ensures.there); is = c.in-Some.ensures.value; room = omega (arith, c.in-Some.ensures.there, c.value_count-count.ensures.count) }

pub returns-clause-value : goal.returns-clause-value
returns-clause-value c = omega (arith, c.in_default.ensures.there)

pub loop-value-preserved : goal.loop-value-preserved
loop-value-preserved c =
    let p = c.in-Some.value.place in
    before_more (c.args.field ∷ 1 ∷ 0 ∷ 0 ∷ []) (texts.entries c.args.segment.now.at) c.loop-value.at (numbers p, c.in-Some.value.text.now) c.loop-value.invariant (omega (arith, c.in-Some.ensures.there)) c.in-Some.ensures.value
    (below_field c.args.field p.field p.rep p.comp p.sub (omega (arith, c.if-value-field.false)))
