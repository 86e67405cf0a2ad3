use Rattle.std.proofs.Common.{◌<◌, length, get_or, arith, []}
use Rattle.gw_profile.specs.Seen.{profile_value}
use Rattle.gw_validate.specs.own.Least.{ShapeRises, BreachAt}
use Rattle.gw_validate.specs.own.Taking.{shape_of}
use Rattle.gw_validate.proofs.Searching.{any_default, all_parts}
use Rattle.gw_validate.proofs.Collecting.{segments_on, segments_end}
use Rattle.gw_validate.proofs.collect.find_in_segments.Goals as goal

pub find_in_segment-requires-clause-rises : goal.find_in_segment-requires-clause-rises
find_in_segment-requires-clause-rises c =
    (all_parts (λ fields. ShapeRises (shape_of fields)) c.args.shapes.now c.loop-i.i c.index-shapes-i.result c.loop-i-test.true c.index-shapes-i.is c.loop-i.invariant.rises).0

pub find_in_segment-requires-clause-within : goal.find_in_segment-requires-clause-within
find_in_segment-requires-clause-within c =
    let here : c.loop-i.i < length c.args.numbers.now = omega (arith, c.requires.same, c.loop-i-test.true) in
    (all_parts (λ k. k < length c.args.message.now) c.args.numbers.now c.loop-i.i (get_or c.args.numbers.now c.loop-i.i 0) here (any_default c.args.numbers.now c.loop-i.i 0 _ here) c.loop-i.invariant.within).0

pub loop-i-preserved : goal.loop-i-preserved
loop-i-preserved c =
    let here : c.loop-i.i < length c.args.numbers.now = omega (arith, c.requires.same, c.loop-i-test.true) in
    let number = any_default c.args.numbers.now c.loop-i.i 0 (get_or c.args.numbers.now c.loop-i.i 0) here in
    record {
      rises = (all_parts (λ fields. ShapeRises (shape_of fields)) c.args.shapes.now c.loop-i.i c.index-shapes-i.result c.loop-i-test.true c.index-shapes-i.is c.loop-i.invariant.rises).1;
      within = (all_parts (λ k. k < length c.args.message.now) c.args.numbers.now c.loop-i.i (get_or c.args.numbers.now c.loop-i.i 0) here number c.loop-i.invariant.within).1;
      on = segments_on (BreachAt (profile_value c.args.profile.now) c.args.message.now) c.args.numbers.now c.args.shapes.now [] c.loop-i.i c.loop-i.found.items c.loop-i.invariant.on (get_or c.args.numbers.now c.loop-i.i 0) c.index-shapes-i.result c.find_in_segment.new.found.items here c.loop-i-test.true number c.index-shapes-i.is c.in_ok-find_in_segment.ensures;
    }

pub returns : goal.returns
returns c =
    segments_end (BreachAt (profile_value c.args.profile.now) c.args.message.now) c.args.numbers.now c.args.shapes.now [] c.loop-i.i c.loop-i.found.items c.loop-i.invariant.on c.loop-i-test.false
