use Rattle.std.proofs.Common.{ap, ◌∙◌, ◌++◌, List, ℕ, ◌∷◌, [], arith}
use Rattle.gw_mllp.proofs.Reaching.{ended}
use Rattle.gw_mllp.proofs.blocks.end_content.Goals as goal

pub returns-clause-ok : goal.returns-clause-ok
returns-clause-ok c =
    ap (λ (x : List ℕ). x ++ 28 ∷ 13 ∷ []) c.in_ok-append.ensures.ok ∙ ended c.args.content.now.items c.args.run.now c.requires.kept c.requires.whole (grind (arith, c.requires.some))
