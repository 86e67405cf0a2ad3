use Rattle.std.proofs.Common.{arith}
use Rattle.std.specs.FinMap as texts
use Rattle.gw_er7.specs.Presence.{RepAt}
use Rattle.gw_validate.proofs.Nexts.{next_counted}
use Rattle.gw_validate.proofs.Walks.{rep_end}
use Rattle.gw_validate.proofs.fields.count_reps.Goals as goal

pub loop-next-preserved : goal.loop-next-preserved
loop-next-preserved c =
    let next = c.in-Some.ensures.next in
    let rep = c.in-Some.next in
    record {
      counted = next_counted (RepAt c.args.segment.now.at c.args.field) c.loop-next.rep rep c.loop-next.count next.behind next.there next.first c.loop-next.invariant.counted;
      small = omega (arith, next.behind, c.loop-next.invariant.small);
      there = λ some. next.there;
      before = rep_end c.args.field rep 0 0 (texts.entries c.args.segment.now.at) _ c.in-Some.ensures.here;
    }

pub returns : goal.returns
returns c =
    let past = c.in_default.ensures.next in
    record {
      last = c.loop-next.rep;
      is = record { there = c.loop-next.invariant.there; within = λ rep there. (past.some rep there, past.none rep there) };
      counted = c.loop-next.invariant.counted;
    }
