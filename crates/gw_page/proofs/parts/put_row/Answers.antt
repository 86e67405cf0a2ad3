use Rattle.std.proofs.Common.{rules, append_assoc}
use Rattle.gw_page.specs.Rows.{row}
use Rattle.gw_page.proofs.parts.put_row.Goals as goal

pub returns : goal.returns
unfolding row
returns c = search (rules, append_assoc)
