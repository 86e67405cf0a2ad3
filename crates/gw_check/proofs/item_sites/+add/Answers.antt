use Rattle.std.proofs.Common.{ap, ◌∙◌}
use Rattle.gw_resolve.specs.Positions.{positions}
use Rattle.gw_check.proofs.Adding.{group_made, flat_made}
use Rattle.gw_check.proofs.item_sites.+add.Goals as goal

pub add_item-returns-in_ok-add_items-in-Group : goal.add_item-returns-in_ok-add_items-in-Group
add_item-returns-in_ok-add_items-in-Group t c = λ tables.
    group_made tables (positions c.args.scope.now) c.args.above.now (positions c.deref-in-Group-4.result.now) (positions c.deref-in-Group-2.result.now)
    c.deref-in-Group.result.now c.deref-in-Group-3.result.now c.deref-in-Group-5.result.now c.args.item.now c.in-Group.group c.deref-in-Group-6.result.now
    c.args.sites.now.items c.add_node.new.sites.items c.add_condition.new.sites.items c.add_items.new.sites.items c.in-Group.is c.deref-in-Group-6.ensures.value
    (ap positions c.deref-in-Group-4.ensures.value ∙ c.in_ok-within-in-Group.ensures) (ap positions c.deref-in-Group-2.ensures.value ∙ c.in_ok-within-in-Group.ensures)
    (c.deref-in-Group.ensures.value ∙ c.in_ok-at-in-Group.ensures) (c.deref-in-Group-3.ensures.value ∙ c.in_ok-at-in-Group.ensures) (c.deref-in-Group-5.ensures.value ∙ c.in_ok-at-in-Group.ensures)
    (c.in_ok-add_node-in-Group.ensures tables) (c.in_ok-add_condition-in-Group.ensures tables) (c.in_ok-add_items-in-Group.ensures tables)

pub add_item-returns-in_ok-add_items-in-Flat : goal.add_item-returns-in_ok-add_items-in-Flat
add_item-returns-in_ok-add_items-in-Flat t c = λ tables.
    flat_made tables (positions c.args.scope.now) c.args.above.now (positions c.deref-in-Flat-5.result.now) (positions c.deref-in-Flat-3.result.now)
    c.deref-in-Flat-2.result.now c.deref-in-Flat-4.result.now c.args.item.now c.in-Flat.flat c.deref-in-Flat-6.result.now c.deref-in-Flat.result.now
    c.args.sites.now.items c.add_node-in-Flat.new.sites.items c.add_condition-in-Flat.new.sites.items c.add_items-in-Flat.new.sites.items c.in-Flat.is c.deref-in-Flat-6.ensures.value c.deref-in-Flat.ensures.value
    (ap positions c.deref-in-Flat-5.ensures.value ∙ c.in_ok-within-in-Flat.ensures) (ap positions c.deref-in-Flat-3.ensures.value ∙ c.in_ok-within-in-Flat.ensures)
    (c.deref-in-Flat-2.ensures.value ∙ c.in_ok-at-in-Flat.ensures tables) (c.deref-in-Flat-4.ensures.value ∙ c.in_ok-at-in-Flat.ensures tables)
    (c.in_ok-add_node-in-Flat.ensures tables) (c.in_ok-add_condition-in-Flat.ensures tables) (c.in_ok-add_items-in-Flat.ensures tables)
