use Rattle.std.proofs.Common.{◌≡◌, ◌+◌, ◌*◌, drop}
use Rattle.gw_profile.specs.declared.node.Node.{size-Node}
use Rattle.gw_validate.proofs.Walking.{Reaches}
use Rattle.gw_validate.proofs.walk.+take.Given as goal

abbrev pub decreases-take_node : goal.decreases-take_node
decreases-take_node l = 2 * size-Node l.frame.node.now

abbrev pub decreases-take_nodes : goal.decreases-take_nodes
decreases-take_nodes l = 2 * goal.size-take_nodes l + 1

abbrev pub invariant-take_nodes-loop-i : goal.invariant-take_nodes-loop-i
invariant-take_nodes-loop-i l = record {
  reaches : Reaches l.nodes (drop l.i l.nodes) l.name;
  kept : l.stack.items ≡ l.initial.stack.items;
}
