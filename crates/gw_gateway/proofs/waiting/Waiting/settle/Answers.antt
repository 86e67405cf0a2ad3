use Rattle.std.proofs.Common.{◌≡◌, ◌+◌, sym, ◌∙◌, subst}
use mathlib.Core.List.{IsPrefix}
use Rattle.gw_gateway.specs.Waiting.{AllStored, WaitState}
use Rattle.gw_gateway.proofs.Joining.{settled_so}
use Rattle.gw_gateway.proofs.waiting.Waiting.settle.Goals as goal

pub invariant_of-self : goal.invariant_of-self
invariant_of-self g c =
    let last : c.see.new.self.upto ≡ c.args.ticket.now.place + 1 = c.see.ensures.upto ∙ c.requires.last in
    let all : AllStored g.J.Naming.before c.see.new.self =
    settled_so g.J.Naming.before c.see.new.self c.args.ticket.now c.args.receipt.now last c.requires.put c.requires.stored
    (subst (λ h. IsPrefix h c.see.new.self.history) c.front.ensures c.see.ensures.seen) in
    record { put = c.self.invariant.put; done = λ _. subst (λ (w : WaitState). AllStored g.J.Naming.before w) (sym c.self.view_is) all }

pub returns-clause-stored : goal.returns-clause-stored
returns-clause-stored g c =
    let last : c.see.new.self.upto ≡ c.args.ticket.now.place + 1 = c.see.ensures.upto ∙ c.requires.last in
    let all : AllStored g.J.Naming.before c.see.new.self =
    settled_so g.J.Naming.before c.see.new.self c.args.ticket.now c.args.receipt.now last c.requires.put c.requires.stored
    (subst (λ h. IsPrefix h c.see.new.self.history) c.front.ensures c.see.ensures.seen) in
    subst (λ (w : WaitState). AllStored g.J.Naming.before w) (sym c.self.view_is) all
