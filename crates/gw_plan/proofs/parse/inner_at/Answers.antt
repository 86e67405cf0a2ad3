use Rattle.std.proofs.Common.{◌∙◌, sym, refl, arith}
use Rattle.gw_plan.proofs.Stopping.{before_on, any_on, stopped_at, never_stopped}
use Rattle.gw_plan.proofs.parse.inner_at.Goals as goal

pub loop-i-preserved : goal.loop-i-preserved
loop-i-preserved c = record {
  before = before_on c.args.more.now c.loop-i.i _ _ c.loop-i-test.true (sym c.if-branch.false ∙ c.in_ok-stops.ensures) c.loop-i.invariant.before;
  any = any_on c.args.more.now c.loop-i.i _ _ c.loop-i-test.true (sym c.if-branch.false ∙ c.in_ok-stops.ensures) c.loop-i.invariant.any;
}

pub returns-then-branch : goal.returns-then-branch
returns-then-branch c =
    stopped_at c.args.at c.args.more.now c.loop-i.i _ _ c.loop-i-test.true (sym c.if-branch.true ∙ c.in_ok-stops.ensures) refl c.loop-i.invariant.before c.loop-i.invariant.any

pub returns : goal.returns
returns c = never_stopped c.args.at c.args.more.now c.loop-i.i (omega arith) c.loop-i.invariant.before c.loop-i.invariant.any
