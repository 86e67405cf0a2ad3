use Rattle.std.proofs.Common.{◌∙◌, ap, subst, List}
use Rattle.std.specs.Arc.{arc_value}
use Rattle.std.specs.Option.{IfSome}
use Rattle.gw_profile.specs.Seen.{profile_value}
use Rattle.gw_profile.specs.Shapes.{ProfileValue}
use Rattle.gw_plan.specs.Declarations.{IsBetween, profiles_of}
use Rattle.gw_plan.proofs.Standing.{held_values}
use Rattle.gw_plan.proofs.Sharing.{found_between, one_taken, with_kept}
use Rattle.gw_plan.proofs.declarations.Declarations.take_between.Goals as goal

pub invariant_of-self : goal.invariant_of-self
invariant_of-self c =
    with_kept c.swap_remove.new.self.entries c.self.invariant
    (one_taken _ c.in_ok-names.names c.self.inside.between.entries c.swap_remove.new.self.entries c.swap_remove.ensures.updates.0 c.self.invariant.between)

pub returns-clause-found : goal.returns-clause-found
returns-clause-found c =
    subst (λ (ps : List ProfileValue). IfSome c.swap_remove.result (IsBetween ps c.args.map.now.source c.args.map.now.target))
    (held_values profile_value arc_value c.self.inside.profiles.entries ∙ ap profiles_of c.self.view_is)
    (
    found_between _ c.in_ok-names.names c.self.inside.between.entries c.swap_remove.result c.in_ok-names.ensures.source c.in_ok-names.ensures.target c.swap_remove.ensures.value
    c.self.invariant.between
    )
