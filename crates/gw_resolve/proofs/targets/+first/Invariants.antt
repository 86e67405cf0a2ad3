use Rattle.std.proofs.Common.{◌≡◌, drop, slice_get}
use Rattle.gw_maplang.specs.Seen.{all_items}
use Rattle.gw_resolve.specs.Naming as spec
use Rattle.gw_resolve.proofs.targets.+first.Given as goal

abbrev pub invariant-first_of-loop-item : goal.invariant-first_of-loop-item
invariant-first_of-loop-item l = slice_get (spec.labels (all_items l.items)) 0 ≡ slice_get (spec.labels (all_items (drop l.item-index l.items))) 0
