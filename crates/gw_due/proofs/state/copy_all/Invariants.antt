use Rattle.std.proofs.Common.{◌≡◌, take}
use Rattle.gw_due.proofs.state.copy_all.Given as goal

abbrev pub invariant-loop-one : goal.invariant-loop-one
invariant-loop-one l = l.all.items ≡ take l.one-index l.receivers
