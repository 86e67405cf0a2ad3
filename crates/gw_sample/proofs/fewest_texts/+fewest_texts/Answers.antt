use Rattle.std.proofs.Common.{◌∙◌, ◌*◌, ap, arith, refl}
use Rattle.std.specs.Prelude.{min}
use Rattle.gw_sample.specs.FewestTexts.{fewest_texts}
use Rattle.gw_sample.proofs.Counting.{texts_before, segment_texts, group_texts, all_to_count, one_counted, all_counted}
use Rattle.gw_sample.proofs.fewest_texts.+fewest_texts.Goals as goal

pub count_node-returns-in-Seg : goal.count_node-returns-in-Seg
count_node-returns-in-Seg t c = segment_texts c.args.node.now c.in-Seg.segment 524289 c.count_segment.result c.in-Seg.is c.count_segment.ensures

pub count_node-returns-in-Group : goal.count_node-returns-in-Group
count_node-returns-in-Group t c =
    group_texts c.args.node.now c.in-Group.group c.deref.result.now 524289 c.count_nodes-each.result c.min.result (omega arith) c.in-Group.is c.deref.ensures.value
    c.count_nodes-each.ensures (c.min.ensures ∙ ap (λ n. min (n * c.count_nodes-each.result) 524289) c.from.ensures)

pub count_nodes-loop-node-init : goal.count_nodes-loop-node-init
count_nodes-loop-node-init t c = all_to_count fewest_texts 524289 c.args.nodes.now

pub count_nodes-overflow_add-count : goal.count_nodes-overflow_add-count
count_nodes-overflow_add-count t c = omega (arith, c.loop-node.invariant.bound, c.count_node.ensures)

pub count_nodes-loop-node-preserved : goal.count_nodes-loop-node-preserved
count_nodes-loop-node-preserved t c =
    one_counted fewest_texts texts_before 524289 c.args.nodes.now c.loop-node.node-index c.node-item.result c.loop-node.count c.count_node.result c.min-count.result c.loop-node-test.true c.node-item.is
    c.loop-node.invariant c.count_node.ensures c.min-count.ensures

pub count_nodes-returns : goal.count_nodes-returns
count_nodes-returns t c = all_counted fewest_texts refl 524289 c.args.nodes.now c.loop-node.node-index c.loop-node.count c.loop-node-test.false c.loop-node.invariant
