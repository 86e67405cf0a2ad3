use Rattle.std.proofs.Common.{ℕ}
use Rattle.gw_gate.specs.Entries.{entries_seen}
use Rattle.gw_audit.specs.own.Queues.{queue_at}
use Rattle.gw_audit.proofs.Dues.{Owed}
use Rattle.gw_audit.proofs.delivery_queue.queues_of.Given as goal

abbrev pub invariant-loop-place : goal.invariant-loop-place
invariant-loop-place l = (r : ℕ) → Owed (entries_seen l.entries) l.place r (queue_at l.queues.items r)
