use Rattle.std.proofs.Common.{◌≡◌, ◌++◌, flat_map, take}
use Rattle.gw_page.specs.Health.{reason}
use Rattle.gw_page.proofs.wellness.put_late.Given as goal

abbrev pub invariant-loop-receiver : goal.invariant-loop-receiver
invariant-loop-receiver l = l.out.items ≡ l.initial.out.items ++ flat_map (reason l.late) (take l.receiver-index l.receivers)
