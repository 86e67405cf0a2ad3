use Rattle.std.proofs.Common.{map, subst, sym, List}
use Rattle.gw_er7.specs.Message.{SegmentValue}
use Rattle.gw_er7.specs.Building.{IsBegun}
use Rattle.gw_resolve.specs.Seen.{rule}
use Rattle.gw_interp.specs.own.Making.{seen_from, MayMakeRules, AreRulesMade}
use Rattle.gw_interp.proofs.Fills.{on_ok}
use Rattle.gw_interp.proofs.RuleByRule.{may_begin, may_rules, imaged}
use Rattle.gw_interp.proofs.segments.put_segment.Goals as goal

pub begin-requires : goal.begin-requires
begin-requires c = may_begin c.args.builder.now c.args.name c.requires.lawful c.requires.begin

pub make_rules-requires-clause-may : goal.make_rules-requires-clause-may
make_rules-requires-clause-may c =
    let f = rule c.args.rows.now.tables in
    subst (λ (b : List SegmentValue). MayMakeRules (seen_from c.args.scope.now) (map f c.args.rules.now) b) (sym c.in_ok-begin.ensures.ok)
    (may_rules (seen_from c.args.scope.now) c.args.name (map f c.args.rules.now) c.args.builder.now c.requires.may)

pub returns-clause-adds : goal.returns-clause-adds
returns-clause-adds c =
    let f = rule c.args.rows.now.tables in
    on_ok _ _ c.make_rules.result
    (λ made. imaged (seen_from c.args.scope.now) c.args.name (map f c.args.rules.now) c.args.builder.now c.requires.may c.make_rules.new.builder
    (subst (λ (b : List SegmentValue). AreRulesMade (seen_from c.args.scope.now) (map f c.args.rules.now) b c.make_rules.new.builder) c.in_ok-begin.ensures.ok made))
    c.make_rules.ensures

pub returns-clause-lawful : goal.returns-clause-lawful
returns-clause-lawful c =
    on_ok _ _ c.make_rules.result
    (λ made. made.keeps (subst IsBegun (sym c.in_ok-begin.ensures.ok) (may_begin c.args.builder.now c.args.name c.requires.lawful c.requires.begin)))
    c.make_rules.ensures
