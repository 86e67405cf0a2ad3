use Rattle.std.proofs.Common.{arith, length, ◌<◌}
use Rattle.gw_validate.proofs.Collecting.{counts_more, length_more, sequences_more}
use Rattle.gw_validate.proofs.collect.sequences.Goals as goal

pub loop-number-preserved : goal.loop-number-preserved
loop-number-preserved c =
    let lt : c.loop-number.number < length c.args.message.now = omega (arith, c.segment_count-number-end.ensures.count) in
    record {
      count = length_more c.loop-number.all.items c.push.new.self.items c.next_of-sequence.result c.loop-number.number c.in_ok-push.ensures.items c.loop-number.invariant.count;
      counted = counts_more c.args.message.now c.loop-number.number c.loop-number.counts c.insert.new.self c.name_at-name.result c.next_of-sequence.result lt c.name_at-name.ensures c.in_ok-insert.ensures.updates.0 c.next_of-sequence.ensures c.loop-number.invariant.counted;
      each = sequences_more c.args.message.now c.loop-number.number c.loop-number.all.items c.push.new.self.items c.loop-number.counts c.name_at-name.result c.next_of-sequence.result c.in_ok-push.ensures.items c.loop-number.invariant.count c.name_at-name.ensures c.next_of-sequence.ensures c.loop-number.invariant.counted c.loop-number.invariant.each;
    }
