use Rattle.std.proofs.Common.{◌≡◌}
use Rattle.gw_delivery.specs.Waiting.{Stays}
use Rattle.gw_delivery.proofs.pending.PendingOutbox.next.Given as goal

abbrev pub invariant-loop : goal.invariant-loop
invariant-loop g l = record {
  can : (goal.iterator-loop g).can_next l.iterator';
  finite : (goal.iterator-loop g).is_finite l.iterator';
  count : l.self.count ≡ l.fn.self.count;
  stays : Stays g.J.Naming.before (record { receiver = l.fn.self.receiver; name = l.fn.self.name.now; backlog = l.fn.self.backlog; next = l.fn.self.next })
      (record { receiver = l.self.receiver; name = l.self.name.now; backlog = l.self.backlog; next = l.self.next });
}
