use Rattle.std.proofs.Common.{◌∙◌, sym, ap, subst, map, List, ℕ}
use Rattle.std.specs.List.{list_any}
use Rattle.std.specs.Prelude.{nat_eq}
use Rattle.std.specs.Arc.{arc_value}
use Rattle.std.specs.Option.{option_map}
use Rattle.gw_plan.specs.Seen.{senders_value}
use Rattle.gw_profile.specs.Seen.{profile_value}
use Rattle.gw_check.specs.Kept.{CheckedValue}
use Rattle.gw_plan.specs.Held.{RouteHeld, IsRoute, longer}
use Rattle.gw_plan.proofs.Routes.{leg_put, route_longer}
use Rattle.gw_plan.proofs.route.Route.add_leg.Goals as goal

pub invariant_of-self-2 : goal.invariant_of-self-2
invariant_of-self-2 c =
    let new = ap (λ (r : RouteHeld). list_any (λ l. nat_eq c.args.receiver l.0) r.legs) c.self.view_is ∙ c.requires.new in
    let legs = leg_put arc_value c.args.receiver c.self.inside.legs.entries c.insert.new.self.entries c.args.map new c.in_ok-insert.ensures.entries in
    subst (λ (ls : List (ℕ × CheckedValue)). IsRoute (record { code = c.self.inside.code.items; event = c.self.inside.event.items; senders = option_map senders_value c.self.inside.senders; profile = arc_value c.self.inside.profile; legs = ls })) (sym legs)
    (route_longer c.args.receiver (arc_value c.args.map) (record { code = c.self.inside.code.items; event = c.self.inside.event.items; senders = option_map senders_value c.self.inside.senders; profile = arc_value c.self.inside.profile; legs = map (λ l. (l.0, arc_value l.1)) c.self.inside.legs.entries }) (c.requires.source ∙ ap (λ (r : RouteHeld). profile_value r.profile) (sym c.self.view_is)) c.self.invariant)

pub returns : goal.returns
returns c =
    let new = ap (λ (r : RouteHeld). list_any (λ l. nat_eq c.args.receiver l.0) r.legs) c.self.view_is ∙ c.requires.new in
    let legs = leg_put arc_value c.args.receiver c.self.inside.legs.entries c.insert.new.self.entries c.args.map new c.in_ok-insert.ensures.entries in
    ap (λ (ls : List (ℕ × CheckedValue)). record { code = c.self.inside.code.items; event = c.self.inside.event.items; senders = option_map senders_value c.self.inside.senders; profile = arc_value c.self.inside.profile; legs = ls }) legs
    ∙ ap (longer c.args.receiver (arc_value c.args.map)) c.self.view_is
