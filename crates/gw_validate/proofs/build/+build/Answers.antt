use Rattle.std.proofs.Common.{Result, Ok, Err, IfOk, sym, subst, ap, ◌∙◌, arith, drop, get_or}
use Rattle.std.specs.List.{AllByRecursion}
use Rattle.gw_profile.specs.Seen.{forest}
use Rattle.gw_validate.specs.own.Occurring.{found_of, tree_of, trees_of, IsOrdered}
use Rattle.gw_validate.specs.Conforming.{named}
use Rattle.gw_validate.proofs.Rows.{all_two, each_more}
use Rattle.gw_validate.proofs.Building.{groups_init, groups_over, groups_stopped, groups_never, groups_next, node_of_segment, segment_ordered, node_of_group, group_ordered, nodes_begin, nodes_more, nodes_over}
use Rattle.gw_validate.proofs.Searching.{any_default}
use Rattle.gw_validate.proofs.build.+build.Goals as goal

-- what follows of a value, where there is one
if_ok : {X E : Type 0} (P Q : X → Type 0) → ((x : X) → P x → Q x) → (r : Result X E) → IfOk r P → IfOk r Q
if_ok P Q more (Ok x) h = more x h
if_ok P Q more (Err e) h = tt

pub build_groups-loop-here-init : goal.build_groups-loop-here-init
build_groups-loop-here-init t c = record { going = groups_init (named c.args.message.now) c.args.card.min c.args.card.max (forest c.args.children.now) (drop c.args.at c.args.listed.now); ordered = tt }

pub build_groups-returns-then-not-can_go_on-clause-built : goal.build_groups-returns-then-not-can_go_on-clause-built
build_groups-returns-then-not-can_go_on-clause-built t c =
    groups_stopped (named c.args.message.now) _ _ (forest c.args.children.now) _ _ c.loop-here.due.min c.loop-here.due.max c.args.listed.now c.loop-here.here c.loop-here.invariant.going
    (get_or c.args.listed.now c.loop-here.here 0) c.loop-here-test.true (any_default c.args.listed.now c.loop-here.here 0 _ c.loop-here-test.true) c.if-not-can_go_on.ensures

pub build_groups-returns-then-behind-here-clause-built : goal.build_groups-returns-then-behind-here-clause-built
build_groups-returns-then-behind-here-clause-built t c =
    groups_never (named c.args.message.now) _ _ (forest c.args.children.now) _ _ c.loop-here.due.min c.loop-here.due.max c.args.listed.now c.loop-here.here c.loop-here.invariant.going
    (get_or c.args.listed.now c.loop-here.here 0) c.loop-here-test.true (any_default c.args.listed.now c.loop-here.here 0 _ c.loop-here-test.true) (tree_of c.args.listed.now (forest c.args.children.now) c.in_ok-one.one) c.in_ok-one.behind c.if-not-can_go_on.ensures c.in_ok-one.ensures.built c.if-behind-here.true

pub build_groups-loop-here-preserved : goal.build_groups-loop-here-preserved
build_groups-loop-here-preserved t c = record {
  going = groups_next (named c.args.message.now) _ _ (forest c.args.children.now) _ _ c.loop-here.due.min c.loop-here.due.max c.args.listed.now c.loop-here.here c.loop-here.invariant.going
      (get_or c.args.listed.now c.loop-here.here 0) c.loop-here-test.true (any_default c.args.listed.now c.loop-here.here 0 _ c.loop-here-test.true) (tree_of c.args.listed.now (forest c.args.children.now) c.in_ok-one.one) c.in_ok-one.behind c.if-not-can_go_on.ensures c.in_ok-one.ensures.built _ _ _
      (ap (trees_of c.args.listed.now (forest c.args.children.now)) c.in_ok-one_more.ensures ∙ each_more (tree_of c.args.listed.now (forest c.args.children.now)) (found_of c.loop-here.found) c.in_ok-one.one)
      c.less_one-due.ensures.min c.less_one-due.ensures.max;
  ordered = subst (AllByRecursion (IsOrdered (forest c.args.children.now))) (sym c.in_ok-one_more.ensures)
      (all_two (IsOrdered (forest c.args.children.now)) (found_of c.loop-here.found) _ c.loop-here.invariant.ordered (c.in_ok-one.ensures.ordered, tt));
}

pub build_groups-returns-clause-built : goal.build_groups-returns-clause-built
build_groups-returns-clause-built t c =
    groups_over (named c.args.message.now) _ _ (forest c.args.children.now) _ _ c.loop-here.due.min c.loop-here.due.max c.args.listed.now c.loop-here.here c.loop-here.invariant.going
    (let past = c.loop-here-test.false in omega arith)

pub build_node-returns-in-Seg : goal.build_node-returns-in-Seg
build_node-returns-in-Seg t c = record {
  built = node_of_segment (named c.args.message.now) c.args.listed.now _ _ c.of_segment.result c.args.node.now c.in-Seg.segment _ c.in-Seg.is (c.of_segment.ensures.numbers c.args.listed.now) c.pass_segments-behind.ensures.built;
  ordered = segment_ordered (named c.args.message.now) c.args.listed.now (drop c.args.at c.args.listed.now) (drop c.args.at c.args.listed.now) c.of_segment.result c.args.node.now c.in-Seg.segment c.in-Seg.is;
}

pub build_node-returns-in-Group : goal.build_node-returns-in-Group
build_node-returns-in-Group t c = record {
  built = if_ok _ _ (λ b h. node_of_group (named c.args.message.now) c.args.listed.now _ _ b.0 c.args.node.now c.in-Group.group _ c.in-Group.is c.deref.ensures.value h) c.build_groups.result c.build_groups.ensures.built;
  ordered = if_ok _ _ (λ b h. group_ordered (named c.args.message.now) c.args.listed.now (drop c.args.at c.args.listed.now) (drop c.args.at c.args.listed.now) b.0 c.args.node.now c.in-Group.group _ c.in-Group.is c.deref.ensures.value h) c.build_groups.result c.build_groups.ensures.ordered;
}

pub build_nodes-loop-i-init : goal.build_nodes-loop-i-init
build_nodes-loop-i-init t c = nodes_begin (named c.args.message.now) c.args.listed.now c.args.nodes.now (drop c.args.at c.args.listed.now) c.none-found.result c.none-found.ensures

pub build_nodes-loop-i-preserved : goal.build_nodes-loop-i-preserved
build_nodes-loop-i-preserved t c =
    nodes_more (named c.args.message.now) c.args.listed.now c.args.nodes.now (drop c.args.at c.args.listed.now) c.loop-i.i c.index-nodes-i.result c.loop-i.found _ c.in_ok-one.one _ _ c.loop-i-test.true c.index-nodes-i.is
    c.in_ok-put.ensures.up_to c.in_ok-put.ensures.here c.in_ok-put.ensures.before c.loop-i.invariant c.in_ok-one.ensures.built c.in_ok-one.ensures.ordered

pub build_nodes-returns : goal.build_nodes-returns
build_nodes-returns t c =
    let all = nodes_over (named c.args.message.now) c.args.listed.now c.args.nodes.now (drop c.args.at c.args.listed.now) c.loop-i.i c.loop-i.found _ c.loop-i-test.false c.loop-i.invariant in
    record { built = all.0; ordered = all.1 }

pub build_nodes-put-requires : goal.build_nodes-put-requires
build_nodes-put-requires t c = c.loop-i.invariant.up_to
