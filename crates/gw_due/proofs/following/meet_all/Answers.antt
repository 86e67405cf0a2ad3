use Rattle.std.proofs.lemmas.List.Edits.{map_over_more}
use Rattle.gw_due.specs.State.{receiver_by}
use Rattle.gw_due.specs.Views as view
use Rattle.gw_due.proofs.Receivers.{room_at}
use Rattle.gw_due.proofs.following.meet_all.Goals as goal

pub meet-requires-clause-left : goal.meet-requires-clause-left
meet-requires-clause-left c =
    (room_at (receiver_by c.args.at (view.event c.args.event.now)) c.args.receivers.now c.loop-receiver.receivers c.loop-receiver.receiver-index c.receiver-item.result c.loop-receiver-test.true c.requires.room c.loop-receiver.invariant).left

pub meet-requires-clause-refused : goal.meet-requires-clause-refused
meet-requires-clause-refused c =
    (room_at (receiver_by c.args.at (view.event c.args.event.now)) c.args.receivers.now c.loop-receiver.receivers c.loop-receiver.receiver-index c.receiver-item.result c.loop-receiver-test.true c.requires.room c.loop-receiver.invariant).refused

pub loop-receiver-preserved : goal.loop-receiver-preserved
loop-receiver-preserved c =
    let f = receiver_by c.args.at (view.event c.args.event.now) in
    rw (c.meet.ensures, ← c.receiver-item.is)
    (map_over_more f c.args.receivers.now c.loop-receiver.receivers c.loop-receiver.receiver-index c.receiver-item.result c.loop-receiver-test.true c.loop-receiver.invariant c.receiver-item.is)
