use Rattle.gw_gateway.proofs.Routing.{routed_at}
use Rattle.gw_gateway.proofs.laws.one_plan_routes.Goals as goal

pub returns : goal.returns
returns c log place number to bytes lawful there = routed_at log lawful place number to bytes there
