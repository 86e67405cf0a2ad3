use Rattle.std.proofs.Common.{◌∙◌}
use Rattle.gw_er7.proofs.Lent.{count_is}
use Rattle.gw_er7.proofs.view.Segment.value_count.Goals as goal

pub returns-clause-count : goal.returns-clause-count
returns-clause-count c = c.len.ensures ∙ count_is c.self.inside.name c.self.inside.values c.args.self.now c.self.invariant c.self.view_is
