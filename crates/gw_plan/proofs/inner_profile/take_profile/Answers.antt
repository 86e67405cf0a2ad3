use Rattle.std.proofs.Common.{◌∙◌, sym, subst}
use Rattle.std.specs.Arc.{arc_value}
use Rattle.gw_profile.specs.Seen.{profile_value}
use Rattle.gw_profile.specs.Whole.{spelled}
use Rattle.gw_plan.specs.Declarations.{profiles_of}
use Rattle.gw_plan.specs.Inner.{text}
use Rattle.gw_plan.specs.own.Made.{inner, Spells}
use Rattle.gw_plan.proofs.NamedProfile.{profile_is_new}
use Rattle.gw_plan.proofs.inner_profile.take_profile.Goals as goal

pub returns-in-None-clause-new : goal.returns-in-None-clause-new
returns-in-None-clause-new c =
    profile_is_new (profiles_of c.args.declarations.now) (inner c.args.part.now) (profile_value (arc_value c.in-Ok.profile))
    (subst (λ r. Spells (λ p. profile_value (arc_value p)) r (spelled (text (inner c.args.part.now)))) c.in-Ok.is c.in_ok-fault.ensures)
    (sym c.in_ok-beside.ensures ∙ c.in-None.is)
