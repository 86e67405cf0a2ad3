use Rattle.gw_resolve.specs.Seen.{rule}
use Rattle.gw_interp.specs.own.Making.{seen_from}
use Rattle.gw_interp.proofs.Turns.{no_rule, may_rule, next_rule, all_rules}
use Rattle.gw_interp.proofs.segments.make_rules.Goals as goal

pub loop-rule-init : goal.loop-rule-init
loop-rule-init c = no_rule (seen_from c.args.scope.now) (rule c.args.rows.now.tables) c.args.rules.now c.args.builder.now c.requires.may

pub make_rule-requires-clause-may : goal.make_rule-requires-clause-may
make_rule-requires-clause-may c =
    (may_rule (seen_from c.args.scope.now) (rule c.args.rows.now.tables) c.args.rules.now c.loop-rule.rule-index c.rule-item.result c.args.builder.now c.loop-rule.builder c.loop-rule-test.true c.rule-item.is c.loop-rule.invariant).each.0

pub loop-rule-preserved : goal.loop-rule-preserved
loop-rule-preserved c =
    next_rule (seen_from c.args.scope.now) (rule c.args.rows.now.tables) c.args.rules.now c.loop-rule.rule-index c.rule-item.result c.args.builder.now c.loop-rule.builder c.make_rule.new.builder c.loop-rule-test.true c.rule-item.is c.loop-rule.invariant c.in_ok-make_rule.ensures

pub returns : goal.returns
returns c =
    all_rules (seen_from c.args.scope.now) (rule c.args.rows.now.tables) c.args.rules.now c.loop-rule.rule-index c.args.builder.now c.loop-rule.builder c.loop-rule-test.false c.loop-rule.invariant
