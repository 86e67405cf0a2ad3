use Rattle.std.proofs.Common.{◌≡◌, ◌++◌, ◌+◌, ◌*◌, drop}
use Rattle.gw_profile.specs.Seen.{forest, profile_value}
use Rattle.gw_check.specs.Levels.{items_failures}
use Rattle.gw_resolve.specs.declared.resolved.Item.{size-Item}
use Rattle.gw_resolve.specs.Seen.{failures, scope, all_items}
use Rattle.gw_check.proofs.inside.+inside.Given as goal

abbrev pub decreases-check_item : goal.decreases-check_item
decreases-check_item l = 2 * size-Item l.item.now

abbrev pub decreases-check_items : goal.decreases-check_items
decreases-check_items l = 2 * goal.size-check_items l + 1

abbrev pub invariant-check_items-loop-item : goal.invariant-check_items-loop-item
invariant-check_items-loop-item l =
    failures l.initial.found.items ++ (items_failures (profile_value l.context.source) (profile_value l.context.target) (scope l.scope) (forest l.nodes) (all_items l.context.map.tables l.items))
    ≡ failures l.found.items ++ (items_failures (profile_value l.context.source) (profile_value l.context.target) (scope l.scope) (forest l.nodes) (all_items l.context.map.tables (drop l.item-index l.items)))
