use Rattle.std.proofs.Common.{◌≡◌, ◌∙◌, sym, ap, subst, refl, false, true}
use Rattle.gw_profile.specs.Shapes.{ProfileValue}
use Rattle.gw_profile.specs.Seen.{profile_value}
use Rattle.gw_validate.specs.Conforming.{Conforms}
use Rattle.gw_validate.specs.Broken.{IsLeast}
use Rattle.gw_plan.specs.Held.{route_value}
use Rattle.gw_plan.specs.Admitted.{ConformingHeld}
use Rattle.gw_plan.proofs.Routes.{routed_at}
use Rattle.gw_plan.proofs.conforming.admit.Goals as goal

no : {A : Type 0} → false ≡ true → A
no e = absurd (cc)

pub returns-in-Ok-Breaks-clause-refused : goal.returns-in-Ok-Breaks-clause-refused
returns-in-Ok-Breaks-clause-refused c =
    let is : profile_value c.in-Ok-try_clone.profile.value ≡ profile_value c.route_at.result.now.profile = ap profile_value (c.in-Ok-try_clone.ensures ∙ c.profile.ensures) in
    let breach = rw c.in-Ok-Breaks.field-0-is at c.in-Ok-Breaks.ensures.breach in
    let exact = rw c.in-Ok-Breaks.field-0-is at c.in-Ok-Breaks.ensures.exact in (
      record {
        route = route_value c.route_at.result.now;
        routed_so = routed_at _ _ _ c.args.message c.in-Ok.number _ _ c.deref.ensures c.deref-2.ensures c.in-Ok.ensures.1 c.route_at.ensures c.in-Ok.ensures.2;
        least = subst (λ (p : ProfileValue). IsLeast p c.args.message c.in-Ok-Breaks.breach) is breach.least;
        fails = λ conforms. no (exact.1 (subst (λ (p : ProfileValue). Conforms p c.args.message) (sym is) conforms));
      },
      breach.message,
    )

pub returns-in-Ok-shared-clause-admitted : goal.returns-in-Ok-shared-clause-admitted
returns-in-Ok-shared-clause-admitted c =
    let is : profile_value c.in-Ok-try_clone.profile.value ≡ profile_value c.route_at.result.now.profile = ap profile_value (c.in-Ok-try_clone.ensures ∙ c.profile.ensures) in
    let tree = rw c.in-Ok-Fits.field-0-is at c.in-Ok-Fits.ensures.tree in
    let exact = rw c.in-Ok-Fits.field-0-is at c.in-Ok-Fits.ensures.exact in
    record {
      by_plan = ap (λ (x : ConformingHeld). x.plan) c.in-Ok-shared.ensures.made ∙ c.in-Ok-try_clone-2.ensures;
      by_version = ap (λ (x : ConformingHeld). x.version) c.in-Ok-shared.ensures.made;
      message = ap (λ (x : ConformingHeld). x.tree.message) c.in-Ok-shared.ensures.made ∙ tree.message;
      route = route_value c.route_at.result.now;
      routed_so = routed_at _ _ _ c.args.message c.in-Ok.number _ _ c.deref.ensures c.deref-2.ensures c.in-Ok.ensures.1 c.route_at.ensures c.in-Ok.ensures.2;
      conforms = subst (λ (p : ProfileValue). Conforms p c.args.message) is (exact.0 refl);
    }
