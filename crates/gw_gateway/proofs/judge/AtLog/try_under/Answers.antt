use Rattle.std.proofs.Common.{◌∙◌, subst, ap}
use mathlib.Core.List.{IsPrefix}
use Rattle.gw_plan.specs.Admitted.{ConformingHeld}
use Rattle.gw_ack.specs.declared.reply.Reply.TheVariants.{Accept}
use Rattle.gw_stream.proofs.Posting.{err_gives}
use Rattle.gw_gateway.proofs.Arriving.{attempts_of, judged_so, on_err, settles_refused}
use Rattle.gw_gateway.proofs.Joining.{goes_both}
use Rattle.gw_gateway.proofs.judge.AtLog.try_under.Goals as goal

pub returns-in-Admitted-clause-ok : goal.returns-in-Admitted-clause-ok
returns-in-Admitted-clause-ok g c =
    let taken = rw c.in-Admitted.is at c.in_ok-conforming.ensures in
    let seen : IsPrefix c.args.under.now.history c.see.new.self.history = subst (λ h. IsPrefix h c.see.new.self.history) c.front.ensures.seen c.see.ensures.seen in
    let judged = judged_so g.J.Naming.before c.args.under.now c.see.new.self.history c.args.message Accept c.front.ensures.stands seen taken.says in
    attempts_of g.J.Naming.before c.args.self.now.waiting c.see.new.self c.arrive.new.self.waiting c.see.ensures.on c.args.message _ c.arrive.result
    (ap (λ (x : ConformingHeld). x.tree.message) c.deref.ensures ∙ taken.message) judged c.arrive.ensures.ok

pub returns-in-Admitted-clause-err : goal.returns-in-Admitted-clause-err
returns-in-Admitted-clause-err g c =
    on_err g.J.Naming.before c.args.self.now.waiting c.see.new.self c.arrive.new.self.waiting c.see.ensures.on c.arrive.result c.arrive.ensures.err

pub returns-in_err-outcome-in-Refused-clause-err : goal.returns-in_err-outcome-in-Refused-clause-err
returns-in_err-outcome-in-Refused-clause-err g c =
    err_gives _ (goes_both c.args.self.now.waiting c.see.new.self c.refuse.new.self.waiting c.see.ensures.on c.in_err-outcome-in-Refused.ensures.on)

pub returns-in_ok-outcome-in-Refused-clause-ok : goal.returns-in_ok-outcome-in-Refused-clause-ok
returns-in_ok-outcome-in-Refused-clause-ok g c =
    let says = rw c.in-Refused.is at c.in_ok-conforming.ensures in
    let seen : IsPrefix c.args.under.now.history c.see.new.self.history = subst (λ h. IsPrefix h c.see.new.self.history) c.front.ensures.seen c.see.ensures.seen in
    let judged = judged_so g.J.Naming.before c.args.under.now c.see.new.self.history c.args.message c.in-Refused.why c.front.ensures.stands seen says.0 in
    settles_refused g.J.Naming.before c.args.self.now.waiting c.see.new.self c.refuse.new.self.waiting c.args.message _ c.in-Refused.why _
    c.see.ensures.on c.in_ok-outcome-in-Refused.ensures.on judged says.1 c.in_ok-outcome-in-Refused.ensures.said
