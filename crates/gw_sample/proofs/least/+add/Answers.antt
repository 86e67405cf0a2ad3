use Rattle.std.proofs.Common.{rules, ◌<◌, ◌≤◌}
use Rattle.gw_sample.specs.own.Least.{several_of, least}
use Rattle.gw_sample.proofs.Weights.{weight_one, weight_all, not_heavier, lighter}
use Rattle.gw_profile.specs.Seen.{forest, node_forest}
use Rattle.gw_profile.specs.Shapes.{nothing}
use Rattle.gw_sample.proofs.Added.{all_left, may_next, may_again, may_group, one_less, none_left, group_next, group_done}
use Rattle.gw_sample.proofs.least.+add.Goals as goal

pub add_nodes-loop-node-init : goal.add_nodes-loop-node-init
add_nodes-loop-node-init t c = all_left c.args.builder.now c.args.nodes.now c.requires

pub add_nodes-loop-node-preserved : goal.add_nodes-loop-node-preserved
add_nodes-loop-node-preserved t c =
    one_less c.args.builder.now c.loop-node.builder c.add_node.new.builder c.args.nodes.now c.loop-node.node-index c.node-item.result c.loop-node-test.true c.node-item.is
    c.loop-node.invariant c.in_ok-add_node.ensures

pub add_nodes-returns : goal.add_nodes-returns
add_nodes-returns t c =
    none_left c.args.builder.now c.loop-node.builder c.args.nodes.now c.loop-node.node-index c.loop-node-test.false c.loop-node.invariant

pub add_nodes-add_node-requires : goal.add_nodes-add_node-requires
add_nodes-add_node-requires t c =
    let smaller : weight_one c.node-item.result ≤ weight_all c.args.nodes.now = not_heavier c.args.nodes.now c.loop-node.node-index c.node-item.result c.loop-node-test.true c.node-item.is in (
      search rules,
      may_next c.args.builder.now c.loop-node.builder c.args.nodes.now c.loop-node.node-index c.node-item.result c.loop-node-test.true c.node-item.is c.loop-node.invariant,
    )

pub add_node-add_nodes-requires : goal.add_node-add_nodes-requires
add_node-add_nodes-requires t c =
    let smaller : weight_all c.deref.result.now < weight_one c.args.node.now = lighter c.args.node.now c.in-Group.group c.deref.result.now c.in-Group.is c.deref.ensures.value in (
      search rules,
      may_group c.args.node.now c.in-Group.group c.deref.result.now c.loop-time.builder c.in-Group.is c.deref.ensures.value
          (may_again (node_forest c.args.node.now nothing) (several_of c.loop-time._time (least (forest c.in-Group.group.nodes.items))) c.args.builder.now c.loop-time.builder c.requires c.loop-time.invariant),
    )

pub add_node-loop-time-preserved : goal.add_node-loop-time-preserved
add_node-loop-time-preserved t c =
    group_next c.deref.result.now c.in-Group.group.nodes.items c.args.builder.now c.loop-time.builder c.add_nodes.new.builder c.loop-time._time c.deref.ensures.value
    c.loop-time.invariant c.in_ok-add_nodes-in-Group.ensures

pub add_node-returns-after-loop-time : goal.add_node-returns-after-loop-time
add_node-returns-after-loop-time t c =
    group_done c.args.node.now c.in-Group.group c.args.builder.now c.loop-time.builder c.loop-time._time c.in-Group.is c.loop-time.auto._time-end c.loop-time-test.false
    c.loop-time.invariant
