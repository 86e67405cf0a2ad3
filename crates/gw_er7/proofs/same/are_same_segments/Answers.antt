use Rattle.std.proofs.Common.{refl, arith}
use Rattle.gw_er7.proofs.Lying.{same_more}
use Rattle.gw_er7.proofs.same.are_same_segments.Goals as goal

pub loop-i-preserved : goal.loop-i-preserved
loop-i-preserved c = record {
  long = c.loop-i.invariant.long;
  rest = same_more c.args.message.now c.args.other.now c.loop-i.i c.segment.result c.segment-in-loop-i.result (omega (arith, c.loop-i-test.true, c.segment_count-i-end.ensures.count)) c.loop-i.invariant.long
      c.segment.ensures c.segment-in-loop-i.ensures (c.if-not-is.ensures.0 refl) c.loop-i.invariant.rest;
}
