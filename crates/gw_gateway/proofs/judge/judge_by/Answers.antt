use Rattle.std.proofs.Common.{◌≡◌, ◌∙◌, subst}
use Rattle.std.specs.Prelude.{Ok, Err}
use Rattle.std.specs.Arc.{arc_value}
use Rattle.gw_plan.specs.Admitted.{BreaksSo, IsAdmitted}
use Rattle.gw_plan.specs.Held.{PlanHeld, plan_value}
use Rattle.gw_plan.specs.Routing.{routed}
use Rattle.gw_plan.specs.Whole.{spelled}
use Rattle.gw_gateway.proofs.Arriving.{taken_so, nowhere_so, breaks_so, reject_other, refuse_other}
use Rattle.gw_gateway.proofs.judge.judge_by.Goals as goal

pub returns-in-Ok : goal.returns-in-Ok
returns-in-Ok g c =
    let spells = subst (λ (p : PlanHeld). spelled p.text ≡ Ok (plan_value p)) (c.deref.ensures ∙ c.plan.ensures) c.is_spelled.ensures in
    let admitted = subst (λ (p : PlanHeld). IsAdmitted p c.place.result c.args.message (arc_value c.in-Ok.conforming)) c.plan-2.ensures c.in-Ok.ensures.admitted in
    record { says = taken_so c.args.under.now.plan c.place.result c.args.message (arc_value c.in-Ok.conforming) spells admitted; plan = admitted.by_plan; message = admitted.message }

pub returns-in-Err-Route : goal.returns-in-Err-Route
returns-in-Err-Route g c =
    let spells = subst (λ (p : PlanHeld). spelled p.text ≡ Ok (plan_value p)) (c.deref.ensures ∙ c.plan.ensures) c.is_spelled.ensures in
    let refused = rw c.in-Err-Route.field-0-is at c.in-Err-Route.ensures.refused in
    let none = subst (λ (p : PlanHeld). routed (plan_value p) c.args.message ≡ Err c.in-Err-Route.code) c.plan-2.ensures refused.0 in
    (nowhere_so c.args.under.now.plan c.args.message c.in-Err-Route.code spells none, reject_other c.in-Err-Route.code)

pub returns-in-Err-Breaks : goal.returns-in-Err-Breaks
returns-in-Err-Breaks g c =
    let spells = subst (λ (p : PlanHeld). spelled p.text ≡ Ok (plan_value p)) (c.deref.ensures ∙ c.plan.ensures) c.is_spelled.ensures in
    let refused = rw c.in-Err-Breaks.field-0-is at c.in-Err-Breaks.ensures.refused in
    let breaks = subst (λ (p : PlanHeld). BreaksSo p c.args.message c.in-Err-Breaks.breach) c.plan-2.ensures refused.0 in
    (breaks_so c.args.under.now.plan c.args.message c.in-Err-Breaks.breach spells breaks, refuse_other c.in-Err-Breaks.breach)
