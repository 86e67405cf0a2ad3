use Rattle.std.proofs.Common.{◌≡◌, ℕ, ◌+◌, ◌-◌, length}
use Rattle.gw_audit.specs.own.Queues.{queue_at}
use Rattle.gw_audit.proofs.delivery_queue.widen.Given as goal

abbrev pub invariant-loop-alloc : goal.invariant-loop-alloc
invariant-loop-alloc l = (r : ℕ) → queue_at l.queues.items r ≡ queue_at l.initial.queues.items r

abbrev pub decreases-loop-alloc : goal.decreases-loop-alloc
decreases-loop-alloc l = l.receiver + 1 - length l.queues.items
