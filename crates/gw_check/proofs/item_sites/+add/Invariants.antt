use Rattle.std.proofs.Common.{◌≡◌, ◌++◌, ◌+◌, ◌*◌, drop, List}
use Rattle.gw_maplang.specs.Shapes.{TableValue}
use Rattle.gw_resolve.specs.declared.resolved.Item.{size-Item}
use Rattle.gw_resolve.specs.Seen.{all_items}
use Rattle.gw_resolve.specs.Positions.{positions}
use Rattle.gw_check.specs.Seen.{all_sites}
use Rattle.gw_check.specs.Sites.{items_sites}
use Rattle.gw_check.proofs.item_sites.+add.Given as goal

abbrev pub decreases-add_item : goal.decreases-add_item
decreases-add_item l = 2 * size-Item l.item.now

abbrev pub decreases-add_items : goal.decreases-add_items
decreases-add_items l = 2 * goal.size-add_items l + 1

abbrev pub invariant-add_items-loop-item : goal.invariant-add_items-loop-item
invariant-add_items-loop-item l =
    (tables : List TableValue) →
    all_sites tables l.initial.sites.items ++ items_sites (positions l.scope) l.above (all_items tables l.items)
    ≡ all_sites tables l.sites.items ++ items_sites (positions l.scope) l.above (all_items tables (drop l.item-index l.items))
