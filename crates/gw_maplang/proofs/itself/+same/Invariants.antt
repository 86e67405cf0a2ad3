use Rattle.std.proofs.Common.{◌≡◌, ◌≤◌, drop, length, reverse}
use Rattle.gw_profile.specs.Seen.{forest}
use Rattle.gw_maplang.specs.Identity.{same_items}
use Rattle.gw_maplang.specs.Seen.{all_items}
use Rattle.gw_maplang.proofs.itself.+same.Given as goal

abbrev pub invariant-same_items-loop-left : goal.invariant-same_items-loop-left
invariant-same_items-loop-left l = record {
  within : l.left ≤ length l.nodes;
  items : all_items (reverse l.items.items) ≡ same_items (forest (drop l.left l.nodes));
}

abbrev pub decreases-same_items-loop-left : goal.decreases-same_items-loop-left
decreases-same_items-loop-left l = l.left
