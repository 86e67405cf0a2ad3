use Rattle.std.proofs.Common.{◌∙◌, sym, ap}
use Rattle.gw_plan.specs.Whole.{spelled}
use Rattle.gw_plan.specs.Held.{PlanHeld, plan_value}
use Rattle.gw_plan.proofs.Routes.{ok_same}
use Rattle.gw_plan.proofs.laws.one_text_is_one_plan.Goals as goal

pub returns : goal.returns
returns c same =
    ap plan_value (sym c.one.view_is)
    ∙ ok_same _ c.one.invariant.meaning
    (ap (λ (p : PlanHeld). spelled p.text) c.one.view_is ∙ ap spelled same ∙ ap (λ (p : PlanHeld). spelled p.text) (sym c.other.view_is) ∙ c.other.invariant.meaning)
    ∙ ap plan_value c.other.view_is
