use Rattle.std.proofs.Common.{sym, rules}
use Rattle.gw_validate.proofs.Walks.{text_past, text_other, text_here, behind_start, behind_here, numbers-same, apart}
use Rattle.gw_validate.proofs.cursor.text_from.Goals as goal

pub returns-in_default-clause-text : goal.returns-in_default-clause-text
returns-in_default-clause-text c =
    let p = c.args.place in
    let past = rw c.in_default.is at c.first_from-at.ensures.value in
    sym (text_past c.args.segment.now p.field p.rep p.comp p.sub c.first_from-at.result.0 c.first_from-at.ensures.start past)

pub returns-in_default-clause-near : goal.returns-in_default-clause-near
returns-in_default-clause-near c =
    let p = c.args.place in
    behind_start c.args.segment.now p.field p.rep p.comp p.sub c.first_from-at.result.0 c.first_from-at.ensures.start

pub returns-then-ne-clause-text : goal.returns-then-ne-clause-text
returns-then-ne-clause-text c =
    let p = c.args.place in
    let v = c.in-Some.value in
    let here = rw c.in-Some.is at c.first_from-at.ensures.value in
    sym (text_other c.args.segment.now p.field p.rep p.comp p.sub c.first_from-at.result.0 c.first_from-at.ensures.start v.place.field v.place.rep v.place.comp v.place.sub v.text.now here.is (apart v.place p (search rules)))

pub returns-then-ne-clause-near : goal.returns-then-ne-clause-near
returns-then-ne-clause-near c =
    let p = c.args.place in
    behind_start c.args.segment.now p.field p.rep p.comp p.sub c.first_from-at.result.0 c.first_from-at.ensures.start

pub returns-clause-text : goal.returns-clause-text
returns-clause-text c =
    let p = c.args.place in
    let v = c.in-Some.value in
    let here = rw c.in-Some.is at c.first_from-at.ensures.value in
    sym (text_here c.args.segment.now p.field p.rep p.comp p.sub c.first_from-at.result.0 c.first_from-at.ensures.start v.place.field v.place.rep v.place.comp v.place.sub v.text.now here.is (numbers-same v.place p (search rules)))

pub returns-clause-near : goal.returns-clause-near
returns-clause-near c =
    let p = c.args.place in
    let v = c.in-Some.value in
    let here = rw c.in-Some.is at c.first_from-at.ensures.value in
    behind_here c.args.segment.now p.field p.rep p.comp p.sub c.first_from-at.result.0 c.first_from-at.ensures.start v.place.field v.place.rep v.place.comp v.place.sub v.text.now here.is here.within (numbers-same v.place p (search rules))
