use Rattle.std.proofs.Common.{refl}
use Rattle.gw_delivery.specs.Waiting.{WaitingState}
use Rattle.gw_delivery.proofs.Delivering.{begun_stays, kept, kept_stays, stays_trans}
use Rattle.gw_delivery.proofs.pending.Pending.look.Goals as goal

pub returns-then-is_some-clause-stays : goal.returns-then-is_some-clause-stays
returns-then-is_some-clause-stays g c = kept_stays g.J.Naming.before _ _ refl refl refl

pub returns-then-is_some-2-clause-stays : goal.returns-then-is_some-2-clause-stays
returns-then-is_some-2-clause-stays g c = kept_stays g.J.Naming.before _ _ refl refl refl

pub returns-in_default-clause-stays : goal.returns-in_default-clause-stays
returns-in_default-clause-stays g c = kept_stays g.J.Naming.before _ _ refl refl refl

pub returns-then-not-begin-clause-stays : goal.returns-then-not-begin-clause-stays
returns-then-not-begin-clause-stays g c =
    let a : WaitingState = record { receiver = c.args.self.now.receiver; name = c.args.self.now.name.now; backlog = c.args.self.now.backlog; next = c.args.self.now.next } in
    let b : WaitingState = record { receiver = c.begin.new.self.receiver; name = c.begin.new.self.name.now; backlog = c.begin.new.self.backlog; next = c.begin.new.self.next } in
    begun_stays g.J.Naming.before a b c.begin.ensures.receiver c.begin.ensures.name c.begin.ensures.same

pub returns-clause-stays : goal.returns-clause-stays
returns-clause-stays g c =
    let a : WaitingState = record { receiver = c.args.self.now.receiver; name = c.args.self.now.name.now; backlog = c.args.self.now.backlog; next = c.args.self.now.next } in
    let b : WaitingState = record { receiver = c.begin.new.self.receiver; name = c.begin.new.self.name.now; backlog = c.begin.new.self.backlog; next = c.begin.new.self.next } in
    let d : WaitingState = record { receiver = c.read_on.new.self.receiver; name = c.read_on.new.self.name.now; backlog = c.read_on.new.self.backlog; next = c.read_on.new.self.next } in
    stays_trans g.J.Naming.before a b d (begun_stays g.J.Naming.before a b c.begin.ensures.receiver c.begin.ensures.name c.begin.ensures.same)
    (kept g.J.Naming.before b d c.read_on.ensures.keeps)
