use Rattle.std.proofs.lemmas.Result.{IfOk-from_err}
use Rattle.gw_maplang.proofs.Words.{one_text, no_text, all_texts}
use Rattle.gw_maplang.proofs.parts.texts.Goals as goal

pub returns-in_err-push : goal.returns-in_err-push
returns-in_err-push c = IfOk-from_err _ _ c.from_residual.ensures.0

pub loop-next-preserved : goal.loop-next-preserved
loop-next-preserved c = one_text c.args.words.now c.loop-next.next-index c.loop-next.all.items c.loop-next.invariant _ c.in-Some.text c.push.new.self.items c.loop-next-test.true c.in-Some.ensures c.in_ok-push.ensures.items

pub returns-in_default : goal.returns-in_default
returns-in_default c = no_text c.args.words.now c.loop-next.next-index c.loop-next.all.items c.loop-next.invariant _ c.loop-next-test.true c.in_default.ensures

pub returns : goal.returns
returns c = all_texts c.args.words.now c.loop-next.next-index c.loop-next.all.items c.loop-next.invariant c.loop-next-test.false
