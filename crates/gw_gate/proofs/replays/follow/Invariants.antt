use Rattle.std.proofs.Common.{◌≡◌, ◌++◌, map}
use Rattle.std.specs.Vec.Iter.{into_iter_items}
use Rattle.gw_gate.specs.Replies.{most, replies, run}
use Rattle.gw_gate.specs.Values.{event_seen, reply_seen}
use Rattle.gw_gate.proofs.replays.follow.Given as goal

abbrev pub invariant-loop-event : goal.invariant-loop-event
invariant-loop-event l = record {
  journal : run most l.gate (map event_seen (into_iter_items l.event-iterator)) ≡ run most l.initial.gate (map event_seen (into_iter_items l.initial.event-iterator));
  replies : map reply_seen l.replies.items ++ replies most l.gate (map event_seen (into_iter_items l.event-iterator)) ≡ replies most l.initial.gate (map event_seen (into_iter_items l.initial.event-iterator));
}
