use Rattle.std.proofs.Common.{◌≡◌, ◌++◌, ◌+◌, ◌*◌, drop}
use Rattle.gw_profile.specs.declared.node.Node.{size-Node}
use Rattle.gw_profile.specs.Seen.{forest}
use Rattle.gw_check.specs.Collected.{fields_at, nodes_missed}
use Rattle.gw_check.proofs.overlooked.+gather.Given as goal

abbrev pub decreases-add_node : goal.decreases-add_node
decreases-add_node l = 2 * size-Node l.node.now

abbrev pub decreases-add_within : goal.decreases-add_within
decreases-add_within l = 2 * goal.size-add_within l + 1

abbrev pub invariant-add_within-loop-j : goal.invariant-add_within-loop-j
invariant-add_within-loop-j l =
    fields_at l.initial.found.items ++ nodes_missed l.known l.at 0 (forest l.nodes) ≡ fields_at l.found.items ++ nodes_missed l.known l.at l.j (forest (drop l.j l.nodes))
