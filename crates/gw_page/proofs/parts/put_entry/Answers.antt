use Rattle.std.proofs.Common.{rules, append_assoc}
use Rattle.gw_page.specs.Rows.{entry}
use Rattle.gw_page.proofs.parts.put_entry.Goals as goal

pub returns : goal.returns
unfolding entry
returns c = search (rules, append_assoc)
