use Rattle.std.proofs.Common.{◌∙◌, ◌*◌, ap, arith, refl}
use Rattle.std.specs.Prelude.{min}
use Rattle.gw_sample.proofs.Counting.{all_to_count, one_counted, all_counted}
use Rattle.gw_sample.proofs.Fewest.{segments_in, segments_before, segments_counted, group_counted}
use Rattle.gw_sample.proofs.least.+count.Goals as goal

pub count_node-returns-in-Seg : goal.count_node-returns-in-Seg
count_node-returns-in-Seg t c =
    segments_counted c.args.node.now c.in-Seg.segment c.min.result c.in-Seg.is (omega (arith, c.min.ensures, c.from.ensures))

pub count_node-returns-in-Group : goal.count_node-returns-in-Group
count_node-returns-in-Group t c =
    group_counted c.args.node.now c.in-Group.group c.deref.result.now c.count_nodes-each.result c.min-in-Group.result c.in-Group.is c.deref.ensures.value
    c.count_nodes-each.ensures (c.min-in-Group.ensures ∙ ap (λ n. min (n * c.count_nodes-each.result) 10001) c.from-in-Group.ensures)

pub count_nodes-loop-node-init : goal.count_nodes-loop-node-init
count_nodes-loop-node-init t c = all_to_count segments_in 10001 c.args.nodes.now

pub count_nodes-overflow_add-count : goal.count_nodes-overflow_add-count
count_nodes-overflow_add-count t c =
    omega (arith, c.loop-node.invariant.bound, c.count_node.ensures)

pub count_nodes-loop-node-preserved : goal.count_nodes-loop-node-preserved
count_nodes-loop-node-preserved t c =
    one_counted segments_in segments_before 10001 c.args.nodes.now c.loop-node.node-index c.node-item.result c.loop-node.count c.count_node.result c.min-count.result c.loop-node-test.true c.node-item.is
    c.loop-node.invariant c.count_node.ensures c.min-count.ensures

pub count_nodes-returns : goal.count_nodes-returns
count_nodes-returns t c = all_counted segments_in refl 10001 c.args.nodes.now c.loop-node.node-index c.loop-node.count c.loop-node-test.false c.loop-node.invariant
