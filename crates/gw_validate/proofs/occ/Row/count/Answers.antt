use Rattle.std.proofs.Common.{◌≡◌, ◌+◌, ◌∙◌, sym, ap, arith, length}
use Rattle.gw_validate.specs.own.Occurring.{kept}
use Rattle.gw_validate.proofs.Viewing.{count_node, count_segments, count_groups}
use Rattle.gw_validate.proofs.occ.Row.count.Goals as goal

pub segments-requires : goal.segments-requires
segments-requires c = c.requires.ordered.0

pub groups-requires : goal.groups-requires
groups-requires c = c.requires.ordered.0

pub returns-in-Seg : goal.returns-in-Seg
returns-in-Seg c =
    let r = c.args.self.now in
    let at = kept r.found.now in
    let same : c.args.child ≡ 0 + c.args.child = omega arith in
    ap length c.segments.ensures
    ∙ sym (count_node r.listed.now at 0 c.args.child r.nodes.now c.args.child c.index-self-child.result c.requires.child c.index-self-child.is same
    ∙ count_segments r.listed.now at c.args.child c.index-self-child.result c.in-Seg.field-0 (c.index-self-child.is ∙ c.in-Seg.is))

pub returns-in-Group : goal.returns-in-Group
returns-in-Group c =
    let r = c.args.self.now in
    let at = kept r.found.now in
    let same : c.args.child ≡ 0 + c.args.child = omega arith in
    ap length c.groups.ensures
    ∙ sym (count_node r.listed.now at 0 c.args.child r.nodes.now c.args.child c.index-self-child.result c.requires.child c.index-self-child.is same
    ∙ count_groups r.listed.now at c.args.child c.index-self-child.result c.in-Group.field-0 (c.index-self-child.is ∙ c.in-Group.is))
