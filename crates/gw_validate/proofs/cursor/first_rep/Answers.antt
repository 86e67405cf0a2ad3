use Rattle.std.proofs.Common.{◌≡◌, ◌+◌, ◌∷◌, [], arith}
use Rattle.std.specs.FinMap as texts
use Rattle.gw_validate.proofs.Nexts.{none_left, none_here, next_is, next_start}
use Rattle.gw_validate.proofs.Walks.{from_start, field_end}
use Rattle.gw_validate.proofs.cursor.first_rep.Goals as goal

pub returns-in_default-clause-next : goal.returns-in_default-clause-next
returns-in_default-clause-next c =
    let past = rw c.in_default.is at c.first_of-at.ensures.value in
    none_left c.args.segment.now c.args.field 0 c.first_of-at.result.0 c.value_count-count.ensures.segment c.first_of-at.ensures.start past

pub returns-in_default-clause-here : goal.returns-in_default-clause-here
returns-in_default-clause-here c =
    let es = texts.entries c.args.segment.now.at in
    field_end c.args.field (0 + 1) 0 0 es c.first_of-at.result.0 (from_start (c.args.field ∷ (0 + 1) ∷ 0 ∷ 0 ∷ []) es c.first_of-at.result.0 c.first_of-at.ensures.start)

pub returns-then-value-field-clause-next : goal.returns-then-value-field-clause-next
returns-then-value-field-clause-next c =
    let v = c.in-Some.value in
    let here = rw c.in-Some.is at c.first_of-at.ensures.value in
    none_here c.args.segment.now c.args.field 0 c.first_of-at.result.0 c.value_count-count.ensures.segment c.first_of-at.ensures.start v.place.field v.place.rep v.place.comp v.place.sub v.text.now here.is c.if-value-field.true

pub returns-then-value-field-clause-here : goal.returns-then-value-field-clause-here
returns-then-value-field-clause-here c =
    let es = texts.entries c.args.segment.now.at in
    field_end c.args.field (0 + 1) 0 0 es c.first_of-at.result.0 (from_start (c.args.field ∷ (0 + 1) ∷ 0 ∷ 0 ∷ []) es c.first_of-at.result.0 c.first_of-at.ensures.start)

pub returns-clause-next : goal.returns-clause-next
returns-clause-next c =
    let v = c.in-Some.value in
    let here = rw c.in-Some.is at c.first_of-at.ensures.value in
    let same : v.place.field ≡ c.args.field = omega (arith, c.if-value-field.false) in
    next_is c.args.segment.now c.args.field 0 c.first_of-at.result.0 c.value_count-count.ensures.segment c.first_of-at.ensures.start v.place.field v.place.rep v.place.comp v.place.sub v.text.now here.is same

pub returns-clause-here : goal.returns-clause-here
returns-clause-here c =
    let v = c.in-Some.value in
    let here = rw c.in-Some.is at c.first_of-at.ensures.value in
    let same : v.place.field ≡ c.args.field = omega (arith, c.if-value-field.false) in
    next_start c.args.segment.now c.args.field 0 c.first_of-at.result.0 c.value_count-count.ensures.segment c.first_of-at.ensures.start v.place.field v.place.rep v.place.comp v.place.sub v.text.now here.is same
