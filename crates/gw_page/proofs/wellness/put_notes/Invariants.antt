use Rattle.std.proofs.Common.{◌≡◌, ◌++◌, flat_map, take}
use Rattle.gw_page.specs.Health.{note}
use Rattle.gw_page.proofs.wellness.put_notes.Given as goal

abbrev pub invariant-loop-receiver : goal.invariant-loop-receiver
invariant-loop-receiver l = l.out.items ≡ l.initial.out.items ++ flat_map note (take l.receiver-index l.receivers)
