use Rattle.std.proofs.Common.{◌∙◌}
use Rattle.gw_maplang.specs.Patterns.{rule_pattern}
use Rattle.gw_maplang.proofs.Keywords.{of_word}
use Rattle.gw_maplang.proofs.patterns.rule_pattern.Goals as goal

pub returns-then-eq : goal.returns-then-eq
returns-then-eq c = c.copy_pattern.ensures ∙ of_word (rule_pattern c.args.second) _ _ _ _ c.as_slice.ensures c.eq.ensures c.if-eq.true

pub returns-then-eq-2 : goal.returns-then-eq-2
returns-then-eq-2 c = c.first_pattern.ensures ∙ of_word (rule_pattern c.args.second) _ _ _ _ c.as_slice-2.ensures c.eq-2.ensures c.if-eq-2.true

pub returns-then-eq-3 : goal.returns-then-eq-3
returns-then-eq-3 c = c.repeat_pattern.ensures ∙ of_word (rule_pattern c.args.second) _ _ _ _ c.as_slice-3.ensures c.eq-3.ensures c.if-eq-3.true

pub returns-then-eq-4 : goal.returns-then-eq-4
returns-then-eq-4 c = of_word (rule_pattern c.args.second) _ _ _ _ c.as_slice-4.ensures c.eq-4.ensures c.if-eq-4.true

pub returns-then-eq-5 : goal.returns-then-eq-5
returns-then-eq-5 c = of_word (rule_pattern c.args.second) _ _ _ _ c.as_slice-5.ensures c.eq-5.ensures c.if-eq-5.true
