use Rattle.std.proofs.Common.{◌∙◌, sym, ap, subst, Option, Some}
use Rattle.std.specs.Option.{IfSome}
use Rattle.std.specs.Arc.{arc_value}
use Rattle.gw_profile.specs.Seen as profiles
use Rattle.gw_profile.specs.Seen.{profile_value}
use Rattle.gw_plan.specs.Held.{RouteHeld}
use Rattle.gw_plan.specs.Declarations.{profiles_of}
use Rattle.gw_plan.specs.own.SoFar.{StandsAmong, opened}
use Rattle.gw_plan.proofs.Leading.{stands_named}
use Rattle.gw_plan.proofs.draft.Draft.put_route.Goals as goal

pub returns-clause-kept : goal.returns-clause-kept
returns-clause-kept c = record {
  listed = c.in_ok-open.ensures.listed;
  declarations =
      subst (λ (o : Option RouteHeld). IfSome o (StandsAmong (profiles_of c.args.self.now.declarations))) (sym c.in_ok-open.ensures.current)
      (
      stands_named (profiles_of c.args.self.now.declarations) c.args.route.now.profile.now (opened c.args.route.now (arc_value c.in_ok-profile.profile))
      (sym c.in-Some.ensures ∙ ap (λ (p : profiles.Contents). Some (profile_value p)) (sym c.in_ok-profile.ensures))
      );
}
