use Rattle.std.proofs.Common.{◌≡◌, ◌++◌, flat_map, take}
use Rattle.gw_page.specs.Status.{next}
use Rattle.gw_page.proofs.state.put_others.Given as goal

abbrev pub invariant-loop-receiver : goal.invariant-loop-receiver
invariant-loop-receiver l = l.out.items ≡ l.initial.out.items ++ flat_map next (take l.receiver-index l.receivers)
