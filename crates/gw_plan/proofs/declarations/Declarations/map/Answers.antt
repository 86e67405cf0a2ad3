use Rattle.std.proofs.Common.{◌∙◌, ap, subst, List}
use Rattle.std.specs.Arc.{arc_value}
use Rattle.std.specs.Option.{IfSome}
use Rattle.gw_profile.specs.Seen.{profile_value}
use Rattle.gw_profile.specs.Shapes.{ProfileValue}
use Rattle.gw_plan.specs.Shapes.{MapBetween}
use Rattle.gw_plan.specs.Held.{map_between}
use Rattle.gw_plan.specs.Declarations.{DeclarationsHeld, BeginsAt, profiles_of, maps_of, named_map}
use Rattle.gw_plan.proofs.Standing.{lent_named, lent_all, held_values}
use Rattle.gw_plan.proofs.declarations.Declarations.map.Goals as goal

pub returns-clause-named : goal.returns-clause-named
returns-clause-named c =
    lent_named map_between arc_value (λ (b : MapBetween). b.map.name) c.args.name.now c.self.inside.maps.entries c.get.result c.self.invariant.map_names c.get.ensures.value
    ∙ ap (λ (a : DeclarationsHeld). named_map c.args.name.now (maps_of a)) c.self.view_is

pub returns-clause-source : goal.returns-clause-source
returns-clause-source c =
    subst (λ (ps : List ProfileValue). IfSome c.get.result (λ m. BeginsAt ps (arc_value m.now)))
    (held_values profile_value arc_value c.self.inside.profiles.entries ∙ ap profiles_of c.self.view_is)
    (lent_all (BeginsAt _) arc_value c.args.name.now c.self.inside.maps.entries c.get.result c.self.invariant.sources c.get.ensures.value)
