use Rattle.std.proofs.Common.{◌≡◌, ◌++◌, flat_map, take}
use Rattle.gw_page.specs.Rows.{row}
use Rattle.gw_page.proofs.parts.put_rows.Given as goal

abbrev pub invariant-loop-receiver : goal.invariant-loop-receiver
invariant-loop-receiver l = l.out.items ≡ l.initial.out.items ++ flat_map row (take l.receiver-index l.receivers)
