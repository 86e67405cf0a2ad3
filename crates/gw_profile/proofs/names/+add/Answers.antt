use Rattle.gw_profile.proofs.Gathered.{one_less, adds_group}
use Rattle.gw_profile.proofs.names.+add.Goals as goal

pub add_names-loop-node-preserved : goal.add_names-loop-node-preserved
add_names-loop-node-preserved t c =
    one_less c.args.names.now c.loop-node.names c.add_node.new.names c.args.nodes.now c.loop-node.node-index c.node-item.result c.loop-node-test.true c.node-item.is c.loop-node.invariant c.in_ok-add_node.ensures

pub add_node-returns-in_ok-add_names-in-Group : goal.add_node-returns-in_ok-add_names-in-Group
add_node-returns-in_ok-add_names-in-Group t c =
    adds_group c.args.names.now c.add_names.new.names c.args.node.now c.in-Group.group c.deref.result.now c.in-Group.is c.deref.ensures.value c.in_ok-add_names-in-Group.ensures
