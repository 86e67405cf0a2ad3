use Rattle.std.proofs.Common.{rules}
use Rattle.gw_er7.specs.Message.{numbers}
use Rattle.gw_er7.proofs.Drafts.{sorted_by}
use Rattle.gw_er7.proofs.spans.sort_spans.Goals as goal

pub returns-clause-sorted : goal.returns-clause-sorted
returns-clause-sorted g c = sorted_by (λ l. numbers (g.N.Width.said l).place) _ c.sort_unstable_by.ensures.sorted (λ a r f k. search rules)
