use Rattle.std.proofs.Common.{◌≡◌, ◌++◌, ◌+◌, ◌*◌, drop}
use Rattle.gw_profile.specs.Seen.{profile_value}
use Rattle.gw_check.specs.Reached.{reached_failures}
use Rattle.gw_resolve.specs.declared.resolved.Item.{size-Item}
use Rattle.gw_resolve.specs.Seen.{failures, scope, all_items}
use Rattle.gw_check.proofs.reached.+reach.Given as goal

abbrev pub decreases-reach_item : goal.decreases-reach_item
decreases-reach_item l = 2 * size-Item l.item.now

abbrev pub decreases-reach_items : goal.decreases-reach_items
decreases-reach_items l = 2 * goal.size-reach_items l + 1

abbrev pub invariant-reach_items-loop-item : goal.invariant-reach_items-loop-item
invariant-reach_items-loop-item l =
    failures l.initial.found.items ++ reached_failures (profile_value l.context.source) (scope l.scope) (all_items l.context.map.tables l.items)
    ≡ failures l.found.items ++ reached_failures (profile_value l.context.source) (scope l.scope) (all_items l.context.map.tables (drop l.item-index l.items))
