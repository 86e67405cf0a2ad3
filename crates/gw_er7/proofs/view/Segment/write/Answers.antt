use Rattle.gw_er7.specs.View.{entries_of}
use Rattle.gw_er7.proofs.Lent.{segment_is}
use Rattle.gw_er7.proofs.Stored.{ordered, line}
use Rattle.gw_er7.proofs.view.Segment.write.Goals as goal

pub write_line-requires : goal.write_line-requires
write_line-requires c =
    let name = c.self.inside.name in
    let values = c.self.inside.values in
    ordered name (entries_of values) c.args.self.now c.self.invariant.sorted c.self.view_is (segment_is name values c.args.self.now c.self.invariant c.self.view_is)

pub returns : goal.returns
returns c = rw (← line c.self.inside.name (entries_of c.self.inside.values) c.args.self.now c.self.invariant.sorted c.self.view_is) c.write_line.ensures
