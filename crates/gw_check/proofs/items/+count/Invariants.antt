use Rattle.std.proofs.Common.{◌≤◌, ◌+◌, ◌*◌, drop, length}
use Rattle.gw_resolve.specs.declared.resolved.Item.{size-Item}
use Rattle.gw_check.specs.own.ItemByItem.{CountsAll}
use Rattle.gw_resolve.specs.Seen.{scope}
use Rattle.gw_check.proofs.items.+count.Given as goal

abbrev pub decreases-item_count : goal.decreases-item_count
decreases-item_count l = 2 * size-Item l.item.now

abbrev pub decreases-items_count : goal.decreases-items_count
decreases-items_count l = 2 * goal.size-items_count l + 1

abbrev pub invariant-items_count-loop-left : goal.invariant-items_count-loop-left
invariant-items_count-loop-left l = record {
  within : l.left ≤ length l.items;
  counted : CountsAll (scope l.scope) (drop l.left l.items) l.total;
}

abbrev pub decreases-items_count-loop-left : goal.decreases-items_count-loop-left
decreases-items_count-loop-left l = l.left
