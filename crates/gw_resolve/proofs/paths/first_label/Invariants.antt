use Rattle.std.proofs.Common.{◌≡◌, ◌-◌, ◌≤◌, length, option_map}
use Rattle.gw_resolve.specs.Naming as spec
use Rattle.gw_resolve.specs.own.Looking.{further}
use Rattle.gw_resolve.specs.Seen.{scope as walked}
use Rattle.gw_resolve.proofs.paths.first_label.Given as goal

abbrev pub invariant-loop-left : goal.invariant-loop-left
invariant-loop-left l = record {
  within : length l.left ≤ length l.scope;
  first : spec.first_label (walked l.scope) l.label ≡ option_map (further (length l.scope - length l.left)) (spec.first_label (walked l.left) l.label);
}

abbrev pub decreases-loop-left : goal.decreases-loop-left
decreases-loop-left l = length l.left
