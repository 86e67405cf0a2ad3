use Rattle.std.proofs.Common.{◌<◌, length, ap, arith}
use Rattle.std.proofs.lemmas.List.Sums.{sum_by-drop_more}
use Rattle.std.proofs.lemmas.Option.{get_or_from_slice_get}
use Rattle.gw_er7.proofs.Stored.{line_room}
use Rattle.gw_er7.proofs.writer.room_for.Goals as goal

pub loop-i-preserved : goal.loop-i-preserved
loop-i-preserved c =
    let message = c.args.message.now in
    let segment = c.segment.result in
    let lt : c.loop-i.i < length message = omega (arith, c.loop-i-test.true, c.segment_count-i-end.ensures.count) in
    let more = sum_by-drop_more line_room message c.loop-i.i segment lt in
    let this = ap line_room (get_or_from_slice_get message c.loop-i.i segment segment c.segment.ensures) in
    let invariant = c.loop-i.invariant in
    record {
      room = omega (arith, more, this, c.room.ensures, c.saturating_add-room.ensures, invariant.room);
      fits = omega (arith, c.saturating_add-room.ensures);
    }
