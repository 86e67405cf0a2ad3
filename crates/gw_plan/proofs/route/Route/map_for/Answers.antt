use Rattle.std.proofs.Common.{◌∙◌, ap, subst}
use Rattle.std.specs.Prelude.{nat_eq}
use Rattle.std.specs.Arc.{arc_value}
use Rattle.std.specs.Map.{lookup}
use Rattle.gw_plan.specs.Held.{RouteHeld, IsRoute}
use Rattle.gw_plan.proofs.Routes.{map_found, map_takes}
use Rattle.gw_plan.proofs.route.Route.map_for.Goals as goal

pub returns : goal.returns
returns c =
    let leg = map_found arc_value c.args.receiver c.self.inside.legs.entries c.get.result c.get.ensures.value ∙ ap (λ (r : RouteHeld). lookup (nat_eq c.args.receiver) r.legs) c.self.view_is in
    record { leg = leg; takes = map_takes arc_value c.args.receiver c.args.self.now c.get.result (subst IsRoute c.self.view_is c.self.invariant) leg }
