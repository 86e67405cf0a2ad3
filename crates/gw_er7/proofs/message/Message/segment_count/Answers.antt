use Rattle.std.proofs.Common.{arith, ap, length}
use Rattle.gw_er7.proofs.Lying.{length-lying}
use Rattle.gw_er7.proofs.message.Message.segment_count.Goals as goal

pub returns-clause-count : goal.returns-clause-count
returns-clause-count c = omega (arith, c.len.ensures, length-lying c.self.inside.starts.items c.self.inside.texts, ap length c.self.view_is)
