use Rattle.gw_delivery.specs.Waiting.{WaitingState}
use Rattle.gw_delivery.proofs.Delivering.{IsBegun, on_delivered, on_stopped, stopped_at_once}
use Rattle.gw_delivery.proofs.sending.forward_due.Goals as goal

pub returns-then-not-begin-clause-stopped : goal.returns-then-not-begin-clause-stopped
returns-then-not-begin-clause-stopped g c = stopped_at_once g.J.Naming.before _ _ _

pub returns-clause-delivered : goal.returns-clause-delivered
returns-clause-delivered g c =
    let old : WaitingState = record { receiver = c.args.pending.now.receiver; name = c.args.pending.now.name.now; backlog = c.args.pending.now.backlog; next = c.args.pending.now.next } in
    let begun : WaitingState = record { receiver = c.begin.new.self.receiver; name = c.begin.new.self.name.now; backlog = c.begin.new.self.backlog; next = c.begin.new.self.next } in
    let is : IsBegun old begun = record {
      receiver = c.begin.ensures.receiver;
      name = c.begin.ensures.name;
      same = c.begin.ensures.same;
      some = c.begin.ensures.some c.if-not-begin.false;
      of = c.begin.ensures.of c.if-not-begin.false;
    } in
    on_delivered _ (λ p. record { receiver = p.receiver; name = p.name.now; backlog = p.backlog; next = p.next }) g.J.Naming.before
    (λ s t bytes given. given) (λ s t closed. closed) (λ s t ack taken settled. settled) old c.begin.new.self c.forward.new.outbox is _ _ _
    c.forward.result c.forward.ensures.forwards

pub returns-clause-stopped : goal.returns-clause-stopped
returns-clause-stopped g c =
    let old : WaitingState = record { receiver = c.args.pending.now.receiver; name = c.args.pending.now.name.now; backlog = c.args.pending.now.backlog; next = c.args.pending.now.next } in
    let begun : WaitingState = record { receiver = c.begin.new.self.receiver; name = c.begin.new.self.name.now; backlog = c.begin.new.self.backlog; next = c.begin.new.self.next } in
    let is : IsBegun old begun = record {
      receiver = c.begin.ensures.receiver;
      name = c.begin.ensures.name;
      same = c.begin.ensures.same;
      some = c.begin.ensures.some c.if-not-begin.false;
      of = c.begin.ensures.of c.if-not-begin.false;
    } in
    on_stopped _ (λ p. record { receiver = p.receiver; name = p.name.now; backlog = p.backlog; next = p.next }) g.J.Naming.before
    (λ s t bytes given. given) (λ s t closed. closed) (λ s t ack taken settled. settled) old c.begin.new.self c.forward.new.outbox is _ _ _
    (λ s t fault broken. broken) (λ s t ack fault failed. failed) _ _ _ _ c.forward.result c.forward.ensures.breaks
