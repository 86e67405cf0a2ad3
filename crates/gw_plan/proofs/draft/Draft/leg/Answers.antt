use Rattle.std.proofs.Common.{◌≡◌, ◌∙◌, sym, ap, ap₂, subst, Bool, true, false, refl, List, ℕ, Option, Some}
use Rattle.std.specs.Prelude.{Ok, bytes_eq, not}
use Rattle.std.specs.Option.{option_map, IfSome}
use Rattle.std.specs.Arc.{arc_value}
use Rattle.std.proofs.lemmas.Slice.Eq.{bytes_eq-Decides}
use Rattle.gw_profile.specs.Seen as profiles
use Rattle.gw_check.specs.Kept.{CheckedValue}
use Rattle.gw_plan.specs.Shapes.{RouteValue}
use Rattle.gw_plan.specs.Held.{RouteHeld, IsNewLeg, map_between, route_value, longer}
use Rattle.gw_plan.specs.Declarations.{profiles_of}
use Rattle.gw_plan.specs.own.SoFar.{draft_value, StandsAmong}
use Rattle.gw_plan.proofs.Routes.{any_legs}
use Rattle.gw_plan.proofs.Leading.{again, no_map, wrong_map, leads, same_source, longer_value}
use Rattle.gw_plan.proofs.draft.Draft.leg.Goals as goal

not_true : (b : Bool) → not b ≡ true → b ≡ false
not_true true e = absurd (cc)
not_true false e = refl

not_false : (b : Bool) → not b ≡ false → b ≡ true
not_false true e = refl
not_false false e = absurd (cc)

-- two names, as they were compared
named_so : (one other x y : List ℕ) (result b : Bool) → one ≡ x → other ≡ y → result ≡ not (bytes_eq one other) → result ≡ b → not (bytes_eq x y) ≡ b
named_so one other x y result b ex ey e is = ap₂ (λ (n m : List ℕ). not (bytes_eq n m)) (sym ex) (sym ey) ∙ sym e ∙ is

pub returns-then-goes_to-clause-fault : goal.returns-then-goes_to-clause-fault
returns-then-goes_to-clause-fault c =
    again (draft_value c.args.self.now) c.args.at _ c.args.receiver.now c.args.map.now (route_value c.in-Some.route) (ap (option_map route_value) c.in-Some.is) c.in-Some-number.number
    (sym c.number.ensures ∙ c.in-Some-number.is) (sym (any_legs c.in-Some-number.number c.in-Some.route.legs) ∙ sym c.goes_to.ensures ∙ c.if-goes_to.true)

pub returns-in_default-map-clause-fault : goal.returns-in_default-map-clause-fault
returns-in_default-map-clause-fault c =
    no_map (draft_value c.args.self.now) c.args.at _ c.args.receiver.now c.args.map.now (route_value c.in-Some.route) (ap (option_map route_value) c.in-Some.is) c.in-Some-number.number
    (sym c.number.ensures ∙ c.in-Some-number.is) (sym (any_legs c.in-Some-number.number c.in-Some.route.legs) ∙ sym c.goes_to.ensures ∙ c.if-goes_to.false)
    (sym c.map.ensures.named ∙ ap (option_map (λ m. map_between (arc_value m.now))) c.in_default-map.is)

pub returns-then-ne-clause-fault : goal.returns-then-ne-clause-fault
returns-then-ne-clause-fault c =
    let source = c.name.ensures ∙ ap (λ (p : profiles.Contents). p.name) (c.deref-2.ensures ∙ c.source.ensures ∙ ap (λ (m : CheckedValue). m.source) c.deref.ensures) in
    let profile = c.name-2.ensures ∙ ap (λ (p : profiles.Contents). p.name) (c.deref-3.ensures ∙ c.profile.ensures) in
    wrong_map (draft_value c.args.self.now) c.args.at _ c.args.receiver.now c.args.map.now (route_value c.in-Some.route) (ap (option_map route_value) c.in-Some.is) c.in-Some-number.number
    (map_between (arc_value c.in-Some-map.map.now)) (sym c.number.ensures ∙ c.in-Some-number.is)
    (sym (any_legs c.in-Some-number.number c.in-Some.route.legs) ∙ sym c.goes_to.ensures ∙ c.if-goes_to.false) (sym c.in-Some-map.ensures.named)
    (not_true _ (named_so c.name.result.now c.name-2.result.now _ _ c.ne.result true source profile c.ne.ensures c.if-ne.true))

pub returns-clause-leads : goal.returns-clause-leads
returns-clause-leads c =
    let source = c.name.ensures ∙ ap (λ (p : profiles.Contents). p.name) (c.deref-2.ensures ∙ c.source.ensures ∙ ap (λ (m : CheckedValue). m.source) c.deref.ensures) in
    let profile = c.name-2.ensures ∙ ap (λ (p : profiles.Contents). p.name) (c.deref-3.ensures ∙ c.profile.ensures) in
    let same = not_false _ (named_so c.name.result.now c.name-2.result.now _ _ c.ne.result false source profile c.ne.ensures c.if-ne.false) in
    let new = sym (any_legs c.in-Some-number.number c.in-Some.route.legs) ∙ sym c.goes_to.ensures ∙ c.if-goes_to.false in
    record {
      new =
          subst (λ (o : Option RouteHeld). IfSome o (IsNewLeg c.in-Some-number.number (arc_value c.in-Some-map.map.now))) (sym c.in-Some.is)
          (
          record {
            new = sym c.goes_to.ensures ∙ c.if-goes_to.false;
            source =
                same_source (profiles_of c.args.self.now.declarations) (arc_value c.in-Some-map.map.now) c.in-Some.route c.in-Some-map.ensures.source
                (subst (λ (o : Option RouteHeld). IfSome o (StandsAmong (profiles_of c.args.self.now.declarations))) c.in-Some.is c.requires.declarations) ((bytes_eq-Decides _ _).0 same);
          }
          );
      delivers =
          leads (draft_value c.args.self.now) c.args.at _ c.args.receiver.now c.args.map.now (route_value c.in-Some.route) (ap (option_map route_value) c.in-Some.is) c.in-Some-number.number
          (map_between (arc_value c.in-Some-map.map.now)) (sym c.number.ensures ∙ c.in-Some-number.is) new (sym c.in-Some-map.ensures.named) same
          ∙ ap (λ (o : Option RouteValue). Ok (record (draft_value c.args.self.now) { current = o }))
          (ap Some (sym (longer_value c.in-Some-number.number (arc_value c.in-Some-map.map.now) c.in-Some.route)) ∙ sym (ap (option_map (λ r. route_value (longer c.in-Some-number.number (arc_value c.in-Some-map.map.now) r))) c.in-Some.is));
    }
