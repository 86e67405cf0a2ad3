use Rattle.std.proofs.Common.{◌≡◌, ◌<◌, ◌+◌, ◌∙◌, sym, ap, arith, subst, length, get_or, List, Some}
use Rattle.gw_profile.specs.declared.node.Node.{Node}
use Rattle.gw_profile.specs.Seen.{forest}
use Rattle.gw_validate.specs.declared.occurrences.Found.{Found}
use Rattle.gw_validate.specs.Viewing.{number, row}
use Rattle.gw_validate.specs.own.Occurring.{kept, numbers_of, found_of, tree_of, IsOrdered}
use Rattle.gw_validate.proofs.Rows.{all_at, numbers_within}
use Rattle.gw_validate.proofs.Searching.{any_default}
use Rattle.gw_validate.proofs.Viewing.{count_node, count_segments, count_groups, at_node, at_segment, at_group, node_ordered, group_ordered}
use Rattle.gw_validate.proofs.occ.Row.child.Goals as goal

pub number_at-requires : goal.number_at-requires
number_at-requires c =
    let r = c.args.self.now in
    let at = kept r.found.now in
    let same : c.args.child ≡ 0 + c.args.child = omega arith in
    let node = c.in-Seg.is in
    let count = count_node r.listed.now at 0 c.args.child r.nodes.now c.args.child c.index-nodes-child.result c.requires.child c.index-nodes-child.is same ∙ count_segments r.listed.now at c.args.child c.index-nodes-child.result c.in-Seg.field-0 node in
    omega (arith, c.requires.k, ap length c.segments.ensures, count)

pub group_at-requires : goal.group_at-requires
group_at-requires c =
    let r = c.args.self.now in
    let at = kept r.found.now in
    let same : c.args.child ≡ 0 + c.args.child = omega arith in
    let node = c.in-Group.is in
    let count = count_node r.listed.now at 0 c.args.child r.nodes.now c.args.child c.index-nodes-child.result c.requires.child c.index-nodes-child.is same ∙ count_groups r.listed.now at c.args.child c.index-nodes-child.result c.in-Group.group node in
    omega (arith, c.requires.k, ap length c.groups.ensures, count)

pub returns-in-Seg-clause-shows : goal.returns-in-Seg-clause-shows
returns-in-Seg-clause-shows c =
    let r = c.args.self.now in
    let at = kept r.found.now in
    let same : c.args.child ≡ 0 + c.args.child = omega arith in
    let node = c.in-Seg.is in
    let count = count_node r.listed.now at 0 c.args.child r.nodes.now c.args.child c.index-nodes-child.result c.requires.child c.index-nodes-child.is same ∙ count_segments r.listed.now at c.args.child c.index-nodes-child.result c.in-Seg.field-0 node in
    at_node r.listed.now at 0 c.args.child r.nodes.now c.args.child c.index-nodes-child.result c.args.k c.requires.child c.index-nodes-child.is same
    ∙ at_segment r.listed.now at c.args.child c.index-nodes-child.result c.in-Seg.field-0 c.args.k 0 node (omega (arith, c.requires.k, count))
    ∙ ap (λ n. Some (number n)) (sym (c.number_at.ensures ∙ ap (λ l. get_or l c.args.k 0) c.segments.ensures))

pub returns-in-Seg-clause-lawful : goal.returns-in-Seg-clause-lawful
returns-in-Seg-clause-lawful c m within =
    let r = c.args.self.now in
    let at = kept r.found.now in
    let same : c.args.child ≡ 0 + c.args.child = omega arith in
    let node = c.in-Seg.is in
    let count = count_node r.listed.now at 0 c.args.child r.nodes.now c.args.child c.index-nodes-child.result c.requires.child c.index-nodes-child.is same ∙ count_segments r.listed.now at c.args.child c.index-nodes-child.result c.in-Seg.field-0 node in
    let lt : c.args.k < length (numbers_of r.listed.now (at c.args.child)) = omega (arith, c.requires.k, count) in
    all_at (λ i. i < length m) (numbers_of r.listed.now (at c.args.child)) c.args.k c.number_at.result (numbers_within (λ i. i < length m) r.listed.now within (at c.args.child)) lt
    (c.number_at.ensures ∙ ap (λ l. get_or l c.args.k 0) c.segments.ensures ∙ any_default (numbers_of r.listed.now (at c.args.child)) c.args.k 0 c.number_at.result lt)

pub returns-in-Group-clause-shows : goal.returns-in-Group-clause-shows
returns-in-Group-clause-shows c =
    let r = c.args.self.now in
    let at = kept r.found.now in
    let x = c.group_at.result.now in
    let same : c.args.child ≡ 0 + c.args.child = omega arith in
    let node = c.in-Group.is in
    let count = count_node r.listed.now at 0 c.args.child r.nodes.now c.args.child c.index-nodes-child.result c.requires.child c.index-nodes-child.is same ∙ count_groups r.listed.now at c.args.child c.index-nodes-child.result c.in-Group.group node in
    at_node r.listed.now at 0 c.args.child r.nodes.now c.args.child c.index-nodes-child.result c.args.k c.requires.child c.index-nodes-child.is same
    ∙ at_group r.listed.now at c.args.child c.index-nodes-child.result c.in-Group.group c.args.k x node (omega (arith, c.requires.k, count)) (c.group_at.ensures ∙ ap (λ (l : List Found). get_or l c.args.k x) c.groups.ensures)
    ∙ ap (λ (l : List Node). Some (row (tree_of r.listed.now (forest l) x))) (sym c.deref.ensures.value)

pub returns-in-Group-clause-lawful : goal.returns-in-Group-clause-lawful
returns-in-Group-clause-lawful c m within =
    let r = c.args.self.now in
    let at = kept r.found.now in
    let x = c.group_at.result.now in
    let same : c.args.child ≡ 0 + c.args.child = omega arith in
    let node = c.in-Group.is in
    let count = count_node r.listed.now at 0 c.args.child r.nodes.now c.args.child c.index-nodes-child.result c.requires.child c.index-nodes-child.is same ∙ count_groups r.listed.now at c.args.child c.index-nodes-child.result c.in-Group.group node in
    let all = group_ordered at c.args.child c.index-nodes-child.result c.in-Group.group node (node_ordered at 0 c.args.child r.nodes.now c.args.child c.index-nodes-child.result c.requires.child c.index-nodes-child.is same c.requires.ordered.1) in
    record {
      ordered = subst (λ (l : List Node). IsOrdered (forest l) x) (sym c.deref.ensures.value)
          (all_at (IsOrdered (forest c.in-Group.group.nodes.items)) (found_of (at c.args.child)) c.args.k x all (omega (arith, c.requires.k, count)) (c.group_at.ensures ∙ ap (λ (l : List Found). get_or l c.args.k x) c.groups.ensures));
      within = within;
    }
