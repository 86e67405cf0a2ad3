use Rattle.gw_plan.specs.Held.{route_value}
use Rattle.gw_gate.proofs.Asking.{admits}
use Rattle.gw_gate.proofs.plans.admitted_by_plan.Goals as goal

pub returns : goal.returns
returns c = admits c.args.conforming.now (route_value c.route.result.now) c.route.ensures.route c.route.ensures.plan c.route.ensures.message c.route.ensures.conforms
