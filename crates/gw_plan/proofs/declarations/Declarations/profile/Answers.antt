use Rattle.std.proofs.Common.{◌∙◌, ap}
use Rattle.std.specs.Arc.{arc_value}
use Rattle.gw_profile.specs.Seen.{profile_value}
use Rattle.gw_profile.specs.Shapes.{ProfileValue}
use Rattle.gw_plan.specs.Declarations.{DeclarationsHeld, profiles_of, named_profile}
use Rattle.gw_plan.proofs.Standing.{lent_named}
use Rattle.gw_plan.proofs.declarations.Declarations.profile.Goals as goal

pub returns : goal.returns
returns c =
    lent_named profile_value arc_value (λ (p : ProfileValue). p.name) c.args.name.now c.self.inside.profiles.entries c.get.result c.self.invariant.profile_names c.get.ensures.value
    ∙ ap (λ (a : DeclarationsHeld). named_profile c.args.name.now (profiles_of a)) c.self.view_is
