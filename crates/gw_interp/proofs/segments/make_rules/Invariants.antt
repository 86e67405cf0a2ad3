use Rattle.gw_resolve.specs.Seen.{rule}
use Rattle.gw_interp.specs.own.Making.{seen_from}
use Rattle.gw_interp.proofs.Turns.{RulesInTurn}
use Rattle.gw_interp.proofs.segments.make_rules.Given as goal

abbrev pub invariant-loop-rule : goal.invariant-loop-rule
invariant-loop-rule l = RulesInTurn (seen_from l.scope) (rule l.rows.tables) l.rules l.rule-index l.initial.builder l.builder
