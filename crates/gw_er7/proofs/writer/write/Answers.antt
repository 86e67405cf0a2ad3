use Rattle.std.proofs.Common.{◌<◌, List, ℕ, length, subst, sym, arith}
use Rattle.gw_er7.specs.Reading.{Reads}
use Rattle.gw_er7.specs.Written.{written}
use Rattle.gw_er7.proofs.Stored.{written_end, written_more}
use Rattle.gw_er7.proofs.Again.{reads_again}
use Rattle.gw_er7.proofs.writer.write.Goals as goal

pub loop-i-preserved : goal.loop-i-preserved
loop-i-preserved c =
    let lt : c.loop-i.i < length c.args.message.now = omega (arith, c.loop-i-test.true, c.segment_count-i-end.ensures.count) in
    written_more c.args.message.now c.loop-i.i c.segment.result c.loop-i.content.items c.write.new.out.items (written c.args.message.now) lt c.segment.ensures c.in_ok-write.ensures c.loop-i.invariant

pub returns-clause-again : goal.returns-clause-again
returns-clause-again c = λ few.
    let message = c.args.message.now in
    let whole = written_end message c.loop-i.i c.loop-i.content.items (written message) (omega (arith, c.loop-i-test.false, c.segment_count-i-end.ensures.count)) c.loop-i.invariant in
    subst (λ (content : List ℕ). Reads content message) (sym whole) (reads_again message c.segment_count-i-end.ensures.message few)
