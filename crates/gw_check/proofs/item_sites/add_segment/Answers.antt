use Rattle.std.proofs.Common.{ap, ◌∙◌}
use Rattle.gw_resolve.specs.Positions.{positions}
use Rattle.gw_check.proofs.Adding.{walked_made}
use Rattle.gw_check.proofs.item_sites.add_segment.Goals as goal

pub returns-in_ok-add_rules-in-Some : goal.returns-in_ok-add_rules-in-Some
returns-in_ok-add_rules-in-Some c = λ tables.
    walked_made tables (positions c.args.scope.now) c.args.at.now c.args.segment.now c.args.sites.now.items c.add_node.new.sites.items c.add_condition-in-Some.new.sites.items c.add_rules-in-Some.new.sites.items
    (positions c.deref-in-Some-2.result.now) (positions c.deref-in-Some.result.now) c.in-Some.place c.deref-in-Some-3.result.now
    c.in-Some.is c.deref-in-Some-3.ensures.value (ap positions c.deref-in-Some-2.ensures.value ∙ c.in_ok-within-in-Some.ensures) (ap positions c.deref-in-Some.ensures.value ∙ c.in_ok-within-in-Some.ensures)
    (c.in_ok-add_node-in-Some.ensures tables) (c.in_ok-add_condition-in-Some.ensures tables) (c.in_ok-add_rules-in-Some.ensures tables)
