-- Jobs go to receivers of their messages' routes.
use Rattle.std.proofs.Common.{◌≡◌, ◌↔◌, ◌==◌, ℕ, Bool, true, List, [], ◌∷◌, Result, Ok, Err, map, refl, sym, ap, ◌∙◌}
use Rattle.std.specs.Prelude.{nat_eq, ◌||◌}
use Rattle.std.specs.List.{list_any}
use Rattle.std.proofs.lemmas.Bool.{eq-eqb, eqb-true, false≢true}
use Rattle.gw_plan.specs.Held.{plan_value}
use Rattle.gw_plan.specs.Routing.{routed}
use Rattle.gw_plan.specs.Shapes.{Leg, RouteValue}
use Rattle.gw_plan.specs.Admitted.{ConformingHeld, IsOf}
use Rattle.gw_gate.specs.Parts.{delivers}
use Rattle.gw_gate.specs.Seen.{conforming_seen, receivers_by}
use Rattle.gw_gate.proofs.Asking.{one_answer}

any_leg : (r : ℕ) (legs : List Leg) → list_any (λ to. to == r) (map (λ l. l.0) legs) ≡ list_any (λ l. nat_eq r l.0) legs
any_leg r [] = refl
any_leg r (l ∷ legs) =
    let same = one_answer (l.0 == r) (nat_eq r l.0) (λ e. eq-eqb r l.0 (sym (eqb-true l.0 r e))) (λ e. eq-eqb l.0 r (sym (eqb-true r l.0 e))) in
    ap (λ b. b || list_any (λ to. to == r) (map (λ l. l.0) legs)) same ∙ ap (λ b. nat_eq r l.0 || b) (any_leg r legs)

pub goes_to : (c : ConformingHeld) (r : ℕ) → (delivers (conforming_seen c) r ≡ true) ↔ IsOf c r
goes_to c r = (by (routed (plan_value c.plan) c.tree.message) refl, λ of. ap goes of.routed_so ∙ any_leg r of.route.legs ∙ of.goes)
  where
    goes : Result RouteValue ℕ → Bool
    goes o = list_any (λ to. to == r) (receivers_by o)

    by : (o : Result RouteValue ℕ) → routed (plan_value c.plan) c.tree.message ≡ o → goes (routed (plan_value c.plan) c.tree.message) ≡ true → IsOf c r
    by (Ok route) e is = record { route = route; routed_so = e; goes = sym (any_leg r route.legs) ∙ sym (ap goes e) ∙ is }
    by (Err code) e is = absurd (false≢true (sym (ap goes e) ∙ is))
