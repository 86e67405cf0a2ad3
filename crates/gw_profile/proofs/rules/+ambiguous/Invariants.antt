use Rattle.std.proofs.Common.{◌≡◌, ◌≤◌, ◌++◌, drop, length}
use Rattle.gw_profile.specs.Nodes.{joined}
use Rattle.gw_profile.specs.Seen.{forest}
use Rattle.gw_profile.specs.LookAhead.{ambiguous, follow_names}
use Rattle.gw_profile.proofs.Follows.{Same}
use Rattle.gw_profile.proofs.rules.+ambiguous.Given as goal

abbrev pub invariant-ambiguous-loop-left : goal.invariant-ambiguous-loop-left
invariant-ambiguous-loop-left l = record {
  within : l.left ≤ length l.nodes;
  bound : l.from ≤ length l.initial.far.items;
  kept : l.far.items ≡ l.initial.far.items;
  names : Same (l.follow.keys ++ joined (drop l.from l.initial.far.items)) (follow_names (forest (drop l.left l.nodes)) (l.initial.follow.keys ++ joined (drop l.start l.initial.far.items)));
  found : l.found ≡ ambiguous (forest (drop l.left l.nodes)) (l.initial.follow.keys ++ joined (drop l.start l.initial.far.items));
}

abbrev pub decreases-ambiguous-loop-left : goal.decreases-ambiguous-loop-left
decreases-ambiguous-loop-left l = l.left
