use Rattle.gw_profile.proofs.Sames.{segments_same, segment_not_group}
use Rattle.gw_profile.proofs.same.is_segment.Goals as goal

pub returns-in-Seg : goal.returns-in-Seg
returns-in-Seg c = segments_same c.args.one.now c.in-Seg.other c.args.node.now c.same_segment.result c.in-Seg.is c.same_segment.ensures

pub returns-in-Group : goal.returns-in-Group
returns-in-Group c = segment_not_group c.args.one.now c.in-Group.field-0 c.args.node.now c.in-Group.is
