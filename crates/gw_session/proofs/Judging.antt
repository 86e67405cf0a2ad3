-- What the plan in force says of a message.
use Rattle.std.proofs.Common.{◌≡◌, ℕ, List, true, Result, Ok, Err, refl, sym, ap, subst}
use Rattle.gw_ack.specs.declared.reply.Reply.TheVariants.{Accept, Refuse, Reject}
use Rattle.gw_er7.specs.Message.{SegmentValue}
use Rattle.gw_plan.specs.Admitted.{ConformingHeld, BreaksSo}
use Rattle.gw_plan.specs.Admitted as plans
use Rattle.gw_plan.specs.Held.{PlanHeld, plan_value}
use Rattle.gw_plan.specs.Routing.{routed}
use Rattle.gw_plan.specs.Shapes.{RouteValue}
use Rattle.gw_plan.specs.Whole.{spelled}
use Rattle.gw_validate.specs.declared.breach.Breach.{Breach}
use Rattle.gw_gate.specs.Seen.{conforming_seen, message_seen, plan_seen}
use Rattle.gw_gate.proofs.Asking.{under_is}
use Rattle.gw_stream.specs.Served.{SaidBy}
use Rattle.gw_session.specs.Sessions.{Judged}
use Rattle.gw_session.specs.own.Steps.{IsAdmitted}

pub admitted_so : (plan : PlanHeld) (version : ℕ) (m : List SegmentValue) (c : ConformingHeld) → spelled plan.text ≡ Ok (plan_value plan)
    → plans.IsAdmitted plan version m c → IsAdmitted m version (plan_seen plan) (conforming_seen c)
admitted_so plan version m c spells is = record {
  judged = record {
    plan = plan_value plan;
    spells = spells;
    says = subst (λ (r : Result RouteValue ℕ). SaidBy r m Accept) (sym is.routed_so) is.conforms;
  };
  arrival = record {
    message = ap message_seen is.message;
    under = sym (under_is c version plan true (λ _. record { same_version = is.by_version; same_text = ap (λ p. p.text) is.by_plan }, λ _. refl));
  };
}

pub routes_nowhere : (plan : PlanHeld) (m : List SegmentValue) (code : ℕ) → spelled plan.text ≡ Ok (plan_value plan) → routed (plan_value plan) m ≡ Err code
    → Judged plan.text m (Reject code)
routes_nowhere plan m code spells is =
    record { plan = plan_value plan; spells = spells; says = subst (λ (r : Result RouteValue ℕ). SaidBy r m (Reject code)) (sym is) refl }

pub breaks_so : (plan : PlanHeld) (m : List SegmentValue) (breach : Breach) → spelled plan.text ≡ Ok (plan_value plan) → BreaksSo plan m breach
    → Judged plan.text m (Refuse breach)
breaks_so plan m breach spells is = record {
  plan = plan_value plan;
  spells = spells;
  says = subst (λ (r : Result RouteValue ℕ). SaidBy r m (Refuse breach)) (sym is.routed_so) is.least;
}
