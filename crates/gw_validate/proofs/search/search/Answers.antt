use Rattle.std.proofs.Common.{◌<◌, length, get_or, arith}
use Rattle.gw_profile.specs.Seen.{profile_value}
use Rattle.gw_validate.specs.own.Least.{ShapeRises, segment_key}
use Rattle.gw_validate.specs.own.Taking.{shape_of}
use Rattle.gw_validate.proofs.Leasts.{first_least, none_least}
use Rattle.gw_validate.proofs.Searching.{any_default, all_parts, search_some, search_none, search_over}
use Rattle.gw_validate.proofs.search.search.Goals as goal

pub segment-segment-requires : goal.segment-segment-requires
segment-segment-requires c =
    let here : c.loop-i.i < length c.args.numbers.now = omega (arith, c.requires.same, c.loop-i-test.true) in
    (all_parts (λ k. k < length c.args.message.now) c.args.numbers.now c.loop-i.i (get_or c.args.numbers.now c.loop-i.i 0) here (any_default c.args.numbers.now c.loop-i.i 0 _ here) c.loop-i.invariant.within).0

pub visit_fields-requires : goal.visit_fields-requires
visit_fields-requires c =
    (all_parts (λ fields. ShapeRises (shape_of fields)) c.args.shapes.now c.loop-i.i c.index-shapes-i.result c.loop-i-test.true c.index-shapes-i.is c.loop-i.invariant.rises).0

pub returns-in-Err : goal.returns-in-Err
returns-in-Err c =
    let here : c.loop-i.i < length c.args.numbers.now = omega (arith, c.requires.same, c.loop-i-test.true) in
    search_some c.args.numbers.now c.args.shapes.now c.loop-i.i (get_or c.args.numbers.now c.loop-i.i 0) c.index-shapes-i.result here c.loop-i-test.true (any_default c.args.numbers.now c.loop-i.i 0 _ here) c.index-shapes-i.is (profile_value c.args.profile.now) c.args.message.now c.segment-segment.result c.segment-segment.ensures c.loop-i.invariant.on (segment_key c.in-Err.spot) (first_least _ c.in-Err.spot c.in-Err.ensures)

pub loop-i-preserved : goal.loop-i-preserved
loop-i-preserved c =
    let here : c.loop-i.i < length c.args.numbers.now = omega (arith, c.requires.same, c.loop-i-test.true) in
    let number = any_default c.args.numbers.now c.loop-i.i 0 (get_or c.args.numbers.now c.loop-i.i 0) here in
    record {
      rises = (all_parts (λ fields. ShapeRises (shape_of fields)) c.args.shapes.now c.loop-i.i c.index-shapes-i.result c.loop-i-test.true c.index-shapes-i.is c.loop-i.invariant.rises).1;
      within = (all_parts (λ k. k < length c.args.message.now) c.args.numbers.now c.loop-i.i (get_or c.args.numbers.now c.loop-i.i 0) here number c.loop-i.invariant.within).1;
      on = search_none c.args.numbers.now c.args.shapes.now c.loop-i.i (get_or c.args.numbers.now c.loop-i.i 0) c.index-shapes-i.result here c.loop-i-test.true number c.index-shapes-i.is (profile_value c.args.profile.now) c.args.message.now c.segment-segment.result c.segment-segment.ensures c.loop-i.invariant.on (none_least _ c.in_default.ensures);
    }

pub returns : goal.returns
returns c =
    search_over (profile_value c.args.profile.now) c.args.message.now c.args.numbers.now c.args.shapes.now c.loop-i.i c.loop-i-test.false c.loop-i.invariant.on
