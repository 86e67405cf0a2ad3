use Rattle.std.proofs.Common.{◌∙◌, sym, refl, arith}
use Rattle.gw_plan.proofs.Cutting.{further, found, cut_here, from_there, never_cut}
use Rattle.gw_plan.proofs.form.cut_at_from.Goals as goal

pub loop-i-preserved : goal.loop-i-preserved
loop-i-preserved c = further c.args.words.now c.loop-i.i _ c.loop-i-test.true _ c.loop-i.invariant (sym c.is.ensures ∙ c.if-is.false)

pub returns-then-is : goal.returns-then-is
returns-then-is c =
    cut_here c.args.words.now _ _ c.loop-i.i (found c.args.words.now c.loop-i.i _ c.loop-i-test.true _ c.loop-i.invariant (sym c.is.ensures ∙ c.if-is.true)) refl (from_there c.args.words.now c.loop-i.i)

pub returns : goal.returns
returns c = never_cut c.args.words.now c.loop-i.i (omega arith) c.loop-i.invariant
