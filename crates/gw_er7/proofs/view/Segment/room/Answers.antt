use Rattle.std.proofs.Common.{arith}
use Rattle.gw_er7.proofs.Lent.{count_is}
use Rattle.gw_er7.proofs.view.Segment.room.Goals as goal

pub returns : goal.returns
returns c = omega (arith, count_is c.self.inside.name c.self.inside.values c.args.self.now c.self.invariant c.self.view_is, c.len.ensures, c.saturating_mul.ensures, c.saturating_add.ensures)
