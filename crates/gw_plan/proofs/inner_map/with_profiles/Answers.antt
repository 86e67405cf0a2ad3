use Rattle.std.proofs.Common.{subst}
use Rattle.std.specs.Arc.{arc_value}
use Rattle.std.specs.Option.{IfSome}
use Rattle.gw_plan.specs.Declarations.{IsBetween, profiles_of}
use Rattle.gw_plan.specs.own.Made.{Checks}
use Rattle.gw_plan.proofs.Standing.{taken_so}
use Rattle.gw_plan.proofs.inner_map.with_profiles.Goals as goal

pub returns-in_ok-new-in-None-clause-taken : goal.returns-in_ok-new-in-None-clause-taken
returns-in_ok-new-in-None-clause-taken c =
    let named = subst (λ o. IfSome o (IsBetween (profiles_of c.args.declarations.now) c.args.map.source c.args.map.target)) c.in-Some.is c.in_ok-between.ensures.named in
    taken_so (profiles_of c.args.declarations.now) c.in-Some.between.source c.in-Some.between.target c.args.map c.in-Ok.checked
    (arc_value c.in_ok-new-in-None.field-0) c.in_ok-new-in-None.ensures.ok
    (subst (λ r. Checks c.in-Some.between.source c.in-Some.between.target c.args.map r) c.in-Ok.is c.in_ok-broken.ensures.checks) named.source_is
