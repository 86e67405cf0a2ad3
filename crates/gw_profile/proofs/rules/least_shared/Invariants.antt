use Rattle.std.proofs.Common.{◌≡◌, ◌≤◌, ◌++◌, drop, length}
use Rattle.gw_profile.specs.Nodes.{joined}
use Rattle.gw_profile.specs.LookAhead.{least_shared}
use Rattle.gw_profile.proofs.rules.least_shared.Given as goal

abbrev pub invariant-loop-left : goal.invariant-loop-left
invariant-loop-left l = record {
  within : l.left ≤ length l.names;
  found : l.found ≡ least_shared (drop l.left l.names) (l.near.keys ++ joined l.far);
}

abbrev pub decreases-loop-left : goal.decreases-loop-left
decreases-loop-left l = l.left
