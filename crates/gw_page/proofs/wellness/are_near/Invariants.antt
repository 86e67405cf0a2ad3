use Rattle.std.proofs.Common.{◌≡◌, take, true}
use Rattle.std.specs.List.{list_all}
use Rattle.gw_page.specs.Health.{is_near}
use Rattle.gw_page.proofs.wellness.are_near.Given as goal

abbrev pub invariant-loop-receiver : goal.invariant-loop-receiver
invariant-loop-receiver l = list_all (is_near l.late) (take l.receiver-index l.receivers) ≡ true
