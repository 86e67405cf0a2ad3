use Rattle.std.proofs.Common.{refl}
use Rattle.gw_profile.proofs.Sames.{groups_other, group_not_segment, groups_same, one_differs, one_more, long_same}
use Rattle.gw_profile.proofs.same.+same.Goals as goal

pub is_group-returns-then-not-same_head : goal.is_group-returns-then-not-same_head
is_group-returns-then-not-same_head t c = groups_other c.args.one.now c.in-Group.other c.args.node.now c.same_head.result c.in-Group.is c.if-not-same_head.true c.same_head.ensures

pub is_group-returns-in-Seg : goal.is_group-returns-in-Seg
is_group-returns-in-Seg t c = group_not_segment c.args.one.now c.in-Seg.field-0 c.args.node.now c.in-Seg.is

pub is_group-returns-else-not-same_head : goal.is_group-returns-else-not-same_head
is_group-returns-else-not-same_head t c =
    groups_same c.args.one.now c.in-Group.other c.args.node.now c.same_nodes.result _ _ c.in-Group.is c.deref.ensures.value c.deref-in-Group.ensures.value (c.if-not-same_head.ensures.0 refl) c.same_nodes.ensures

pub same_nodes-returns-then-nodes-others : goal.same_nodes-returns-then-nodes-others
same_nodes-returns-then-nodes-others t c = (λ e. absurd (cc), λ e. absurd (c.if-nodes-others.true (long_same c.args.nodes.now c.args.others.now e)))

pub same_nodes-returns-then-not-same_node : goal.same_nodes-returns-then-not-same_node
same_nodes-returns-then-not-same_node t c =
    one_differs c.args.nodes.now c.args.others.now c.loop-i.i c.index-nodes-i.result c.index-others-i.result c.same_node.result c.loop-i-test.true c.loop-i.invariant.long
    c.index-nodes-i.is c.index-others-i.is c.if-not-same_node.true c.same_node.ensures c.loop-i.invariant.rest

pub same_nodes-loop-i-preserved : goal.same_nodes-loop-i-preserved
same_nodes-loop-i-preserved t c = record {
  long = c.loop-i.invariant.long;
  rest =
      one_more c.args.nodes.now c.args.others.now c.loop-i.i c.index-nodes-i.result c.index-others-i.result c.loop-i-test.true c.loop-i.invariant.long
      c.index-nodes-i.is c.index-others-i.is (c.if-not-same_node.ensures.0 refl) c.loop-i.invariant.rest;
}
