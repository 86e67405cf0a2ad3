use Rattle.std.proofs.Common.{◌≡◌, ◌+◌, ◌-◌, false}
use Rattle.gw_stream.specs.own.Gathered.{Progress}
use Rattle.gw_stream.specs.Walked.{place}
use Rattle.gw_stream.proofs.run.answer_blocks.Given as goal

abbrev pub invariant-each : goal.invariant-each
invariant-each g l =
    let R = g.R.Source in
    let W = g.W.Sink in
    record {
      reads : R.has_failed l.reader ≡ false;
      writes : W.has_failed l.writer ≡ false;
      gathered : Progress g.J.Judge.settles g.J.Judge.secures l.fn.judge l.judge (R.remaining l.fn.reader) (R.reads l.fn.reader) (place R l.reader l.blocks)
          (W.contents l.fn.writer) (W.contents l.writer) l.gathered.items l.counts;
    }

abbrev pub decreases-each : goal.decreases-each
decreases-each g l = (16384000000 - l.counts.answered) + (1000000 - l.blocks.turns)
