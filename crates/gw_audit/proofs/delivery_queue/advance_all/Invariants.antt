use Rattle.std.proofs.Common.{ℕ, take}
use Rattle.gw_gate.specs.Entries.{entry_seen}
use Rattle.gw_audit.specs.Owing.{concerned}
use Rattle.gw_audit.specs.own.Queues.{MovedIf, queue_at}
use Rattle.gw_audit.proofs.delivery_queue.advance_all.Given as goal

abbrev pub invariant-loop-place : goal.invariant-loop-place
invariant-loop-place l = (q : ℕ) → MovedIf (take l.place (concerned (entry_seen l.entry))) q (entry_seen l.entry) l.at (queue_at l.initial.queues.items q)
    (queue_at l.queues.items q)
