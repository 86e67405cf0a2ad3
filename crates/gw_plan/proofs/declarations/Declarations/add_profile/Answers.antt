use Rattle.std.proofs.Common.{◌≡◌, ◌∙◌, ap, map, List}
use Rattle.std.specs.Arc.{arc_value}
use Rattle.gw_profile.specs.Seen as profiles
use Rattle.gw_plan.specs.Declarations.{DeclarationsHeld, profiles_of, with_profile, named_profile}
use Rattle.gw_plan.proofs.Standing.{profile_put, profile_kept, one_more}
use Rattle.gw_plan.proofs.declarations.Declarations.add_profile.Goals as goal

pub invariant_of-self-2 : goal.invariant_of-self-2
invariant_of-self-2 c =
    let name : c.in_ok-name.name.items ≡ (arc_value c.args.profile).name = c.in_ok-name.ensures.items ∙ c.name.ensures ∙ ap (λ (p : profiles.Contents). p.name) c.deref.ensures in
    let new = ap (λ (a : DeclarationsHeld). named_profile (arc_value c.args.profile).name (profiles_of a)) c.self.view_is ∙ c.requires in
    profile_kept arc_value c.self.inside.profiles.entries c.insert.new.self.entries _ _ c.in_ok-name.name c.args.profile name
    (profile_put arc_value c.self.inside.profiles.entries c.insert.new.self.entries _ _ c.in_ok-name.name c.args.profile name c.self.invariant new c.in_ok-insert.ensures.entries) c.self.invariant

pub returns-clause-added : goal.returns-clause-added
returns-clause-added c =
    let name : c.in_ok-name.name.items ≡ (arc_value c.args.profile).name = c.in_ok-name.ensures.items ∙ c.name.ensures ∙ ap (λ (p : profiles.Contents). p.name) c.deref.ensures in
    let new = ap (λ (a : DeclarationsHeld). named_profile (arc_value c.args.profile).name (profiles_of a)) c.self.view_is ∙ c.requires in
    let put = profile_put arc_value c.self.inside.profiles.entries c.insert.new.self.entries _ _ c.in_ok-name.name c.args.profile name c.self.invariant new c.in_ok-insert.ensures.entries in
    ap (λ (ps : List profiles.Contents). record { profiles = ps; maps = map (λ e. arc_value e.1) c.self.inside.maps.entries })
    (one_more arc_value c.self.inside.profiles.entries c.insert.new.self.entries c.in_ok-name.name c.args.profile put)
    ∙ ap (λ (a : DeclarationsHeld). with_profile a (arc_value c.args.profile)) c.self.view_is
