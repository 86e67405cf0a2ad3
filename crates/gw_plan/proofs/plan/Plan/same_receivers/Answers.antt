use Rattle.std.proofs.Common.{ap, sym}
use Rattle.gw_plan.specs.Held.{PlanHeld}
use Rattle.gw_plan.proofs.Alike.{receivers_same}
use Rattle.gw_plan.proofs.plan.Plan.same_receivers.Goals as goal

pub returns : goal.returns
returns c =
    receivers_same c.self.inside.receivers.items c.other.inside.receivers.items _ _ _ _ c.are_same.result
    (sym (ap (λ (p : PlanHeld). p.receivers) c.self.view_is)) (sym (ap (λ (p : PlanHeld). p.receivers) c.other.view_is))
    c.deref.ensures.value c.deref-2.ensures.value c.are_same.ensures
