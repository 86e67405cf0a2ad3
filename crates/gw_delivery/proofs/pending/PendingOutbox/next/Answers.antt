use Rattle.std.proofs.Common.{◌∙◌, refl}
use Rattle.gw_delivery.specs.Waiting.{Stays, WaitingState}
use Rattle.gw_delivery.proofs.Delivering.{any_err, broken_behind, closed_behind, given_behind, kept_stays, stays_trans}
use Rattle.gw_delivery.proofs.pending.PendingOutbox.next.Goals as goal

pub loop-init : goal.loop-init
loop-init g c = record { can = tt; finite = tt; count = refl; stays = kept_stays g.J.Naming.before _ _ refl refl refl }

pub returns-in_err-is_ready-clause-broken : goal.returns-in_err-is_ready-clause-broken
returns-in_err-is_ready-clause-broken g c =
    let a : WaitingState = record { receiver = c.args.self.now.receiver; name = c.args.self.now.name.now; backlog = c.args.self.now.backlog; next = c.args.self.now.next } in
    let m : WaitingState = record { receiver = c.loop.self.receiver; name = c.loop.self.name.now; backlog = c.loop.self.backlog; next = c.loop.self.next } in
    let b : WaitingState = record { receiver = c.is_ready.new.self.receiver; name = c.is_ready.new.self.name.now; backlog = c.is_ready.new.self.backlog; next = c.is_ready.new.self.next } in
    any_err c.from_residual.result (Stays g.J.Naming.before a b) (stays_trans g.J.Naming.before a m b c.loop.invariant.stays c.is_ready.ensures.stays)

pub returns-then-branch-clause-given : goal.returns-then-branch-clause-given
returns-then-branch-clause-given g c =
    let a : WaitingState = record { receiver = c.args.self.now.receiver; name = c.args.self.now.name.now; backlog = c.args.self.now.backlog; next = c.args.self.now.next } in
    let m : WaitingState = record { receiver = c.loop.self.receiver; name = c.loop.self.name.now; backlog = c.loop.self.backlog; next = c.loop.self.next } in
    let b : WaitingState = record { receiver = c.is_ready.new.self.receiver; name = c.is_ready.new.self.name.now; backlog = c.is_ready.new.self.backlog; next = c.is_ready.new.self.next } in
    let d : WaitingState = record { receiver = c.given.new.self.receiver; name = c.given.new.self.name.now; backlog = c.given.new.self.backlog; next = c.given.new.self.next } in
    given_behind (λ v. v.items) g.J.Naming.before a b d (stays_trans g.J.Naming.before a m b c.loop.invariant.stays c.is_ready.ensures.stays) c.given.result c.given.ensures.given

pub returns-then-branch-clause-closed : goal.returns-then-branch-clause-closed
returns-then-branch-clause-closed g c =
    let a : WaitingState = record { receiver = c.args.self.now.receiver; name = c.args.self.now.name.now; backlog = c.args.self.now.backlog; next = c.args.self.now.next } in
    let m : WaitingState = record { receiver = c.loop.self.receiver; name = c.loop.self.name.now; backlog = c.loop.self.backlog; next = c.loop.self.next } in
    let b : WaitingState = record { receiver = c.is_ready.new.self.receiver; name = c.is_ready.new.self.name.now; backlog = c.is_ready.new.self.backlog; next = c.is_ready.new.self.next } in
    let d : WaitingState = record { receiver = c.given.new.self.receiver; name = c.given.new.self.name.now; backlog = c.given.new.self.backlog; next = c.given.new.self.next } in
    closed_behind (λ v. v.items) g.J.Naming.before a b d (stays_trans g.J.Naming.before a m b c.loop.invariant.stays c.is_ready.ensures.stays) c.given.result c.given.ensures.closed

pub returns-then-branch-clause-broken : goal.returns-then-branch-clause-broken
returns-then-branch-clause-broken g c =
    let a : WaitingState = record { receiver = c.args.self.now.receiver; name = c.args.self.now.name.now; backlog = c.args.self.now.backlog; next = c.args.self.now.next } in
    let m : WaitingState = record { receiver = c.loop.self.receiver; name = c.loop.self.name.now; backlog = c.loop.self.backlog; next = c.loop.self.next } in
    let b : WaitingState = record { receiver = c.is_ready.new.self.receiver; name = c.is_ready.new.self.name.now; backlog = c.is_ready.new.self.backlog; next = c.is_ready.new.self.next } in
    let d : WaitingState = record { receiver = c.given.new.self.receiver; name = c.given.new.self.name.now; backlog = c.given.new.self.backlog; next = c.given.new.self.next } in
    broken_behind (λ v. v.items) g.J.Naming.before a b d (stays_trans g.J.Naming.before a m b c.loop.invariant.stays c.is_ready.ensures.stays) c.given.result c.given.ensures.broken

pub loop-preserved : goal.loop-preserved
loop-preserved g c =
    let a : WaitingState = record { receiver = c.args.self.now.receiver; name = c.args.self.now.name.now; backlog = c.args.self.now.backlog; next = c.args.self.now.next } in
    let m : WaitingState = record { receiver = c.loop.self.receiver; name = c.loop.self.name.now; backlog = c.loop.self.backlog; next = c.loop.self.next } in
    let b : WaitingState = record { receiver = c.is_ready.new.self.receiver; name = c.is_ready.new.self.name.now; backlog = c.is_ready.new.self.backlog; next = c.is_ready.new.self.next } in
    record { can = tt; finite = tt; count = c.is_ready.ensures.count ∙ c.loop.invariant.count; stays = stays_trans g.J.Naming.before a m b c.loop.invariant.stays c.is_ready.ensures.stays }
