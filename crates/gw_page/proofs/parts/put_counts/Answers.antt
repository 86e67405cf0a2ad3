use Rattle.std.proofs.Common.{rules, append_assoc}
use Rattle.gw_page.specs.Rows.{counts}
use Rattle.gw_page.proofs.parts.put_counts.Goals as goal

pub returns : goal.returns
unfolding counts
returns c = search (rules, append_assoc)
