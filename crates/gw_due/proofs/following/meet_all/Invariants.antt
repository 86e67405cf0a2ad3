use Rattle.std.proofs.Common.{◌≡◌, ◌++◌, map, take, drop}
use Rattle.gw_due.specs.State.{receiver_by}
use Rattle.gw_due.specs.Views as view
use Rattle.gw_due.proofs.following.meet_all.Given as goal

abbrev pub invariant-loop-receiver : goal.invariant-loop-receiver
invariant-loop-receiver l =
    l.receivers ≡ map (receiver_by l.at (view.event l.event)) (take l.receiver-index l.initial.receivers) ++ drop l.receiver-index l.initial.receivers
