use Rattle.std.proofs.Common.{◌≡◌, ◌-◌, arith, ap, subst, sym, List, ℕ, take, drop, get_or, []}
use Rattle.gw_profile.specs.Seen.{segment_value}
use Rattle.gw_validate.specs.own.Building.{GoSegments}
use Rattle.gw_validate.specs.Conforming.{named}
use Rattle.gw_validate.proofs.Building.{segments_init, segments_over, segments_stopped, segments_next, one_passed}
use Rattle.gw_validate.proofs.Searching.{any_default}
use Rattle.gw_validate.proofs.build.pass_segments.Goals as goal

pub loop-here-init : goal.loop-here-init
loop-here-init c =
    let zero : c.args.at - c.args.at ≡ 0 = omega arith in
    let none : take (c.args.at - c.args.at) (drop c.args.at c.args.listed.now) ≡ [] = ap (λ n. take n (drop c.args.at c.args.listed.now)) zero in
    record {
      on = omega arith;
      going = subst (λ (ns : List ℕ). GoSegments (named c.args.message.now) (segment_value c.args.segment.now) (drop c.args.at c.args.listed.now) ns c.args.segment.now.card.min c.args.segment.now.card.max (drop c.args.at c.args.listed.now)) (sym none)
          (segments_init (named c.args.message.now) (segment_value c.args.segment.now) (drop c.args.at c.args.listed.now));
    }

pub returns-then-not-is_next-clause-built : goal.returns-then-not-is_next-clause-built
returns-then-not-is_next-clause-built c =
    segments_stopped (named c.args.message.now) (segment_value c.args.segment.now) (drop c.args.at c.args.listed.now) _ c.loop-here.due.min c.loop-here.due.max c.args.listed.now c.loop-here.here c.loop-here.invariant.going
    (get_or c.args.listed.now c.loop-here.here 0) c.loop-here-test.true (any_default c.args.listed.now c.loop-here.here 0 _ c.loop-here-test.true) c.if-not-is_next.ensures

pub loop-here-preserved : goal.loop-here-preserved
loop-here-preserved c = record {
  on = omega (arith, c.loop-here.invariant.on);
  going = segments_next (named c.args.message.now) (segment_value c.args.segment.now) (drop c.args.at c.args.listed.now) _ c.loop-here.due.min c.loop-here.due.max c.args.listed.now c.loop-here.here c.loop-here.invariant.going
      (get_or c.args.listed.now c.loop-here.here 0) c.loop-here-test.true (any_default c.args.listed.now c.loop-here.here 0 _ c.loop-here-test.true) _ _ _ c.if-not-is_next.ensures
      (one_passed c.args.listed.now c.loop-here.here c.args.at _ c.loop-here.invariant.on c.loop-here-test.true (any_default c.args.listed.now c.loop-here.here 0 _ c.loop-here-test.true))
      c.less_one-due.ensures.min c.less_one-due.ensures.max;
}

pub returns-clause-built : goal.returns-clause-built
returns-clause-built c =
    segments_over (named c.args.message.now) (segment_value c.args.segment.now) (drop c.args.at c.args.listed.now) _ c.loop-here.due.min c.loop-here.due.max c.args.listed.now c.loop-here.here c.loop-here.invariant.going
    (let past = c.loop-here-test.false in omega arith)
