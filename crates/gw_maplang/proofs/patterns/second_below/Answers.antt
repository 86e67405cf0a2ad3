use Rattle.gw_maplang.specs.Patterns.{second_below}
use Rattle.gw_maplang.proofs.Keywords.{of_word}
use Rattle.gw_maplang.proofs.patterns.second_below.Goals as goal

pub returns-then-eq : goal.returns-then-eq
returns-then-eq c = of_word (λ keyword. second_below keyword c.args.second) _ _ _ _ c.as_slice.ensures c.eq.ensures c.if-eq.true

pub returns-then-eq-2 : goal.returns-then-eq-2
returns-then-eq-2 c = of_word (λ keyword. second_below keyword c.args.second) _ _ _ _ c.as_slice-2.ensures c.eq-2.ensures c.if-eq-2.true
