use Rattle.std.proofs.Common.{◌∙◌, map, ap, sym, subst}
use Rattle.std.specs.Arc.{arc_value}
use Rattle.std.specs.Prelude.{nat_eq}
use Rattle.std.specs.List.{IsDistinct}
use Rattle.gw_plan.specs.Held.{RouteHeld}
use Rattle.gw_plan.proofs.Alike.{numbers_are}
use Rattle.gw_plan.proofs.route.Route.goes_once.Goals as goal

pub returns : goal.returns
returns c =
    subst (IsDistinct nat_eq) (sym (numbers_are arc_value c.self.inside.legs.entries) ∙ ap (λ (r : RouteHeld). map (λ l. l.0) r.legs) c.self.view_is) c.len-count.ensures.unique
