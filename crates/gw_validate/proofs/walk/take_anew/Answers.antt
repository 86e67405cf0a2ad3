use Rattle.std.proofs.Common.{◌∙◌, refl, arith}
use Rattle.gw_validate.proofs.Joined.{advance_anew}
use Rattle.gw_validate.proofs.walk.take_anew.Goals as goal

pub returns-clause-taken : goal.returns-clause-taken
returns-clause-taken c =
    advance_anew c.index-top.result.now c.index-below.result.now c.args.name c.args.stack.now.items _ c.len-depth.result (c.len-depth.ensures ∙ c.args.stack.now.ok.0) (omega (arith, c.if-depth-lt2.false)) c.in-Some.begun.outer c.in-Some.begun.inner c.in-Some.begun.fields c.index-top.ensures c.index-below.ensures
    (c.if-not-is_spent.ensures refl) c.in-Some.ensures refl
