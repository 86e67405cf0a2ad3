use Rattle.std.proofs.Common.{◌∙◌, ap}
use Rattle.std.specs.List.{list_any}
use Rattle.std.specs.Prelude.{nat_eq}
use Rattle.std.specs.Arc.{arc_value}
use Rattle.std.proofs.lemmas.Map.Made.{is_some-lookup}
use Rattle.gw_plan.specs.Held.{RouteHeld}
use Rattle.gw_plan.proofs.Routes.{leg_keys}
use Rattle.gw_plan.proofs.route.Route.goes_to.Goals as goal

pub returns : goal.returns
returns c =
    c.contains_key.ensures ∙ is_some-lookup (nat_eq c.args.receiver) c.self.inside.legs.entries ∙ leg_keys arc_value c.args.receiver c.self.inside.legs.entries
    ∙ ap (λ (r : RouteHeld). list_any (λ l. nat_eq c.args.receiver l.0) r.legs) c.self.view_is
