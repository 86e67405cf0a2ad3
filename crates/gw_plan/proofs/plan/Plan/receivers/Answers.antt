use Rattle.std.proofs.Common.{subst}
use Rattle.gw_plan.specs.Held.{PlanHeld, plan_value}
use Rattle.gw_plan.specs.Within.{IsWithin}
use Rattle.gw_plan.proofs.Reachable.{spelled_within}
use Rattle.gw_plan.proofs.plan.Plan.receivers.Goals as goal

pub returns-clause-within : goal.returns-clause-within
returns-clause-within c = subst (λ (p : PlanHeld). IsWithin (plan_value p)) c.self.view_is (spelled_within c.self.inside.text.items _ c.self.invariant.meaning)
