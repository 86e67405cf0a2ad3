-- What a `to` line makes of a plan, case by case.
use Rattle.std.proofs.Common.{◌≡◌, ℕ, List, [], ◌∷◌, ◌++◌, map, Option, Some, None, Bool, true, false, refl, sym, ap, ◌∙◌, subst}
use Rattle.std.specs.Prelude.{Result, Ok, Err, bytes_eq, if◌then◌else◌}
use Rattle.std.specs.List.{list_any}
use Rattle.gw_profile.specs.Seen.{profile_value}
use Rattle.gw_profile.specs.Shapes.{ProfileValue}
use Rattle.gw_check.specs.Kept.{CheckedValue}
use Rattle.gw_plan.specs.declared.fault.PlanFault.{PlanFault}
use Rattle.gw_plan.specs.declared.fault.PlanFault.TheVariants.{Syntax, Duplicate, UnknownName, WrongMap}
use Rattle.gw_plan.specs.Shapes.{MapBetween, RouteValue, named}
use Rattle.gw_plan.specs.Held.{RouteHeld, map_between, route_value, longer, leg}
use Rattle.gw_plan.specs.Declarations.{BeginsAt, named_profile}
use Rattle.gw_plan.specs.own.SoFar.{StandsAmong}
use Rattle.gw_plan.specs.Draft.{Draft, receiver_number, map_named, goes, with_leg, with_map, delivered}
use Rattle.std.proofs.lemmas.List.{map-append}
use Rattle.std.proofs.lemmas.Slice.Eq.{bytes_eq-Decides}
use Rattle.gw_plan.proofs.Keys.{some_same}

abbrev outcome : Draft → ℕ → Option RouteValue → Option ℕ → Option MapBetween → Result Draft PlanFault
outcome d at None receiver by = Err (Syntax at)
outcome d at (Some route) receiver by = with_leg d at route receiver by

by_outcome : (d : Draft) (at : ℕ) (current : Option RouteValue) (receiver map : List ℕ) → delivered d at current receiver map ≡ outcome d at current (receiver_number d receiver) (map_named d map)
by_outcome d at None receiver map = refl
by_outcome d at (Some route) receiver map = refl

module _ (d : Draft) (at : ℕ) (current : Option RouteValue) (receiver map : List ℕ) (route : RouteValue) (is : current ≡ Some route) where
  of_route : delivered d at current receiver map ≡ with_leg d at route (receiver_number d receiver) (map_named d map)
  of_route = by_outcome d at current receiver map ∙ ap (λ o. outcome d at o (receiver_number d receiver) (map_named d map)) is

  pub again : (number : ℕ) → receiver_number d receiver ≡ Some number → list_any (goes number) route.legs ≡ true → delivered d at current receiver map ≡ Err (Duplicate at)
  again number found stands =
      of_route ∙ ap (λ o. with_leg d at route o (map_named d map)) found
      ∙ ap (λ b. if b then Err (Duplicate at) else with_map d at route number (map_named d map)) stands

  of_map : (number : ℕ) → receiver_number d receiver ≡ Some number → list_any (goes number) route.legs ≡ false → delivered d at current receiver map ≡ with_map d at route number (map_named d map)
  of_map number found new =
      of_route ∙ ap (λ o. with_leg d at route o (map_named d map)) found
      ∙ ap (λ b. if b then Err (Duplicate at) else with_map d at route number (map_named d map)) new

  pub no_map : (number : ℕ) → receiver_number d receiver ≡ Some number → list_any (goes number) route.legs ≡ false → map_named d map ≡ None → delivered d at current receiver map ≡ Err (UnknownName at)
  no_map number found new none = of_map number found new ∙ ap (with_map d at route number) none

  pub wrong_map : (number : ℕ) (by : MapBetween) → receiver_number d receiver ≡ Some number → list_any (goes number) route.legs ≡ false → map_named d map ≡ Some by
      → bytes_eq by.source.name route.profile.name ≡ false → delivered d at current receiver map ≡ Err (WrongMap at)
  wrong_map number by found new is_by other =
      of_map number found new ∙ ap (with_map d at route number) is_by
      ∙ ap (λ b. if b then Ok (record d { current = Some (record route { legs = route.legs ++ (number, by) ∷ [] }) }) else Err (WrongMap at)) other

  pub leads : (number : ℕ) (by : MapBetween) → receiver_number d receiver ≡ Some number → list_any (goes number) route.legs ≡ false → map_named d map ≡ Some by
      → bytes_eq by.source.name route.profile.name ≡ true → delivered d at current receiver map ≡ Ok (record d { current = Some (record route { legs = route.legs ++ (number, by) ∷ [] }) })
  leads number by found new is_by same =
      of_map number found new ∙ ap (with_map d at route number) is_by
      ∙ ap (λ b. if b then Ok (record d { current = Some (record route { legs = route.legs ++ (number, by) ∷ [] }) }) else Err (WrongMap at)) same

-- a map that begins at a profile of this name begins at this profile
pub same_source : (profiles : List ProfileValue) (by : CheckedValue) (r : RouteHeld) → BeginsAt profiles by → StandsAmong profiles r → (profile_value by.source).name ≡ (profile_value r.profile).name
    → profile_value by.source ≡ profile_value r.profile
same_source profiles by r begins stands same = some_same (sym begins ∙ ap (λ name. named_profile name profiles) same ∙ stands)

-- one leg more, seen from outside
pub longer_value : (number : ℕ) (by : CheckedValue) (r : RouteHeld) → route_value (longer number by r) ≡ record (route_value r) { legs = (route_value r).legs ++ (number, map_between by) ∷ [] }
longer_value number by r = ap (λ (ls : List (ℕ × MapBetween)). record (route_value r) { legs = ls }) (map-append leg r.legs ((number, by) ∷ []))

-- what was found by a name has it
named_name : {A : Type 0} (name_of : A → List ℕ) (name : List ℕ) (xs : List A) (x : A) → named name_of name xs ≡ Some x → name ≡ name_of x
named_name name_of name [] x e = absurd (cc)
named_name {A} name_of name (y ∷ xs) x e = by (bytes_eq name (name_of y)) refl e (named_name name_of name xs x)
  where
    by : (b : Bool) → bytes_eq name (name_of y) ≡ b → (if b then Some y else named name_of name xs) ≡ Some x → (named name_of name xs ≡ Some x → name ≡ name_of x) → name ≡ name_of x
    by true same e next = (bytes_eq-Decides name (name_of y)).0 same ∙ ap name_of (some_same e)
    by false same e next = next e

pub stands_named : (profiles : List ProfileValue) (name : List ℕ) (r : RouteHeld) → named_profile name profiles ≡ Some (profile_value r.profile) → StandsAmong profiles r
stands_named profiles name r e =
    subst (λ n. named_profile n profiles ≡ Some (profile_value r.profile)) (named_name (λ (p : ProfileValue). p.name) name profiles (profile_value r.profile) e) e
