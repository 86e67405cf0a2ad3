use Rattle.std.proofs.Common.{◌+◌, ◌*◌, length}
use Rattle.gw_interp.proofs.Weights.{weight_one, weight_all, weight_segments, weight_part}
use Rattle.gw_interp.proofs.Eachs.{IsBelowDone}
use Rattle.gw_interp.proofs.Levels.{IsItemsDone}
use Rattle.gw_interp.proofs.items.+items.Given as goal

abbrev pub decreases-put_part : goal.decreases-put_part
decreases-put_part l = 6 * weight_part l.part.now + 3

abbrev pub decreases-enter : goal.decreases-enter
decreases-enter l = 6 * weight_part l.part.now + 4

abbrev pub decreases-put_below : goal.decreases-put_below
decreases-put_below l = 6 * weight_part l.part.now + length l.steps.now + 5

abbrev pub decreases-put_each : goal.decreases-put_each
decreases-put_each l = 6 * weight_part l.part.now + length l.place.now.steps.items + 6

abbrev pub decreases-put_segments : goal.decreases-put_segments
decreases-put_segments l = 6 * weight_segments l.item.now

abbrev pub decreases-put_item : goal.decreases-put_item
decreases-put_item l = 6 * weight_one l.item.now + 1

abbrev pub decreases-put_items : goal.decreases-put_items
decreases-put_items l = 6 * weight_all l.items.now + 2

abbrev pub invariant-put_below-loop-k : goal.invariant-put_below-loop-k
invariant-put_below-loop-k l = IsBelowDone l.rows.tables l.part l.initial.scope.items l.from l.child l.later l.k l.initial.builder l.builder l.scope.items

abbrev pub invariant-put_items-loop-item : goal.invariant-put_items-loop-item
invariant-put_items-loop-item l = IsItemsDone l.nodes l.rows.tables l.items l.initial.scope.items l.item-index l.initial.builder l.builder l.scope.items
