use Rattle.std.proofs.Common.{◌+◌, ◌*◌}
use Rattle.gw_profile.specs.Seen.{forest}
use Rattle.gw_sample.specs.own.Least.{several_of, least, Adds}
use Rattle.gw_sample.proofs.Added.{Left}
use Rattle.gw_sample.proofs.Weights.{weight_one, weight_all}
use Rattle.gw_sample.proofs.least.+add.Given as goal

abbrev pub decreases-add_node : goal.decreases-add_node
decreases-add_node l = 2 * weight_one l.node.now

abbrev pub decreases-add_nodes : goal.decreases-add_nodes
decreases-add_nodes l = 2 * weight_all l.nodes.now + 1

abbrev pub invariant-add_node-loop-time : goal.invariant-add_node-loop-time
invariant-add_node-loop-time l = Adds (several_of l._time (least (forest l.group.nodes.items))) l.initial.builder l.builder

abbrev pub invariant-add_nodes-loop-node : goal.invariant-add_nodes-loop-node
invariant-add_nodes-loop-node l = Left l.initial.builder l.builder l.nodes l.node-index
