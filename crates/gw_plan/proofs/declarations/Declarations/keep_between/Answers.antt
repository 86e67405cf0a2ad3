use Rattle.std.proofs.Common.{◌∙◌, ap, subst, sym, List}
use Rattle.std.specs.Arc.{arc_value}
use Rattle.gw_profile.specs.Seen.{profile_value}
use Rattle.gw_profile.specs.Shapes.{ProfileValue}
use Rattle.gw_plan.specs.Declarations.{IsBetween, profiles_of}
use Rattle.gw_plan.proofs.Standing.{held_values}
use Rattle.gw_plan.proofs.Sharing.{one_kept, with_kept}
use Rattle.gw_plan.proofs.declarations.Declarations.keep_between.Goals as goal

pub invariant_of-self-2 : goal.invariant_of-self-2
invariant_of-self-2 c =
    let is =
    subst (λ (ps : List ProfileValue). IsBetween ps c.args.map.now.source c.args.map.now.target c.args.between)
    (sym (held_values profile_value arc_value c.self.inside.profiles.entries ∙ ap profiles_of c.self.view_is)) c.requires
    in
    with_kept c.insert.new.self.entries c.self.invariant
    (
    one_kept _ c.in_ok-names.names c.args.between c.self.inside.between.entries c.insert.new.self.entries c.in_ok-names.ensures.source c.in_ok-names.ensures.target
    c.in_ok-insert.ensures.updates.0 is c.self.invariant.between
    )
