use Rattle.std.proofs.Common.{◌∙◌, sym, ap}
use Rattle.std.specs.List.{list_any}
use Rattle.std.specs.Prelude.{nat_eq}
use Rattle.gw_plan.specs.Shapes.{RouteValue}
use Rattle.gw_plan.specs.Held.{route_value}
use Rattle.gw_plan.proofs.Reachable.{of_receiver}
use Rattle.gw_plan.proofs.Routes.{any_legs, ok_same}
use Rattle.gw_plan.proofs.conforming.Conforming.goes_to.Goals as goal

pub returns-clause-goes : goal.returns-clause-goes
returns-clause-goes c = (
  λ yes. record { route = route_value c.route.result.now; routed_so = c.route.ensures.route; goes = sym (any_legs c.args.receiver c.route.result.now.legs) ∙ sym c.goes_to.ensures ∙ yes },
  λ x. c.goes_to.ensures ∙ any_legs c.args.receiver c.route.result.now.legs ∙ ap (λ (r : RouteValue). list_any (λ l. nat_eq c.args.receiver l.0) r.legs) (ok_same _ c.route.ensures.route x.routed_so) ∙ x.goes,
)

pub returns-clause-stands : goal.returns-clause-stands
returns-clause-stands c = λ yes.
    of_receiver c.args.self.now c.args.receiver c.receivers-receivers.ensures.within
    (record { route = route_value c.route.result.now; routed_so = c.route.ensures.route; goes = sym (any_legs c.args.receiver c.route.result.now.legs) ∙ sym c.goes_to.ensures ∙ yes })
