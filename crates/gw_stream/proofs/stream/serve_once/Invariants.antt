use Rattle.std.proofs.Common.{◌≡◌, ◌+◌, ◌-◌, false, length}
use Rattle.std.specs.Arc.{arc_value}
use Rattle.std.specs.List.{list_any}
use Rattle.gw_plan.specs.Held.{plan_value}
use Rattle.gw_stream.specs.own.Prepared.{ServesSoFar}
use Rattle.gw_stream.specs.Posts.{known}
use Rattle.gw_stream.specs.Walked.{place}
use Rattle.gw_stream.proofs.stream.serve_once.Given as goal

abbrev pub invariant-each : goal.invariant-each
invariant-each g l =
    let R = g.R.Source in
    let A = g.A.Sink in
    let W = g.W.Sink in
    record {
      reads : R.has_failed l.reader ≡ false;
      answers : A.has_failed l.answers ≡ false;
      outs : list_any W.has_failed l.outs.items ≡ false;
      writers : length l.outs.items ≡ length l.fn.outs.items;
      plan : arc_value l.judge.plan ≡ l.fn.plan;
      stamp : l.judge.stamp ≡ l.fn.stamp;
      serves : ServesSoFar (plan_value l.fn.plan) l.fn.stamp (R.remaining l.fn.reader) (R.reads l.fn.reader) (place R l.reader l.blocks)
          (known A.contents W.contents l.fn.answers l.fn.outs.items) (known A.contents W.contents l.answers l.outs.items) l.counts;
    }

abbrev pub decreases-each : goal.decreases-each
decreases-each g l = (16384000000 - l.counts.answered) + (1000000 - l.blocks.turns)
