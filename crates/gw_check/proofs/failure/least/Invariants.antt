use Rattle.std.proofs.Common.{◌≡◌, ◌≤◌, length, drop, option_map}
use Rattle.gw_check.specs.Checked.{least}
use Rattle.gw_resolve.specs.Seen.{failure, failures}
use Rattle.gw_check.proofs.failure.least.Given as goal

abbrev pub invariant-loop-left : goal.invariant-loop-left
invariant-loop-left l = record {
  bound : l.left ≤ length l.found;
  so_far : option_map failure l.least ≡ least (failures (drop l.left l.found));
}

abbrev pub decreases-loop-left : goal.decreases-loop-left
decreases-loop-left l = l.left
