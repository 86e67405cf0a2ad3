-- What a plan finds for a message.
use Rattle.std.proofs.Common.{◌≡◌, ℕ, suc, ◌+◌, List, [], ◌∷◌, ◌++◌, length, map, Option, Some, None, Bool, true, false, refl, sym, ap, ◌∙◌, subst, arith}
use Rattle.std.specs.Prelude.{Result, Ok, Err, ◌&&◌, ◌||◌, if◌then◌else◌, bytes_eq, nat_eq, slice_get}
use Rattle.std.specs.List.{list_any, position_from, AllByRecursion}
use Rattle.std.specs.Map.{keys_of, lookup}
use Rattle.std.specs.Option.{option_map, option_copied, IfSome}
use Rattle.std.proofs.lemmas.List.{map-append}
use Rattle.indexmap.specs.IndexMap.{insert_entry}
use denote.Ref.{Bor}
use Rattle.gw_profile.specs.Seen.{profile_value}
use Rattle.std.specs.Global.{Vec}
use Rattle.gw_er7.specs.Message.{SegmentValue}
use Rattle.gw_check.specs.Kept.{CheckedValue}
use Rattle.gw_plan.specs.Shapes.{Leg, RouteValue}
use Rattle.gw_plan.specs.Senders.{Header, are_of}
use Rattle.gw_plan.specs.Index.{is_key, number_for, number_if_some}
use Rattle.gw_plan.specs.Held.{RouteHeld, PlanHeld, IsRoute, longer, leg, plan_value, route_value, tested, FoundAt}
use Rattle.gw_plan.specs.Kept.{key_of}
use Rattle.gw_plan.specs.Routing.{is_code, route_for, admitted, routed, is_accepted}
use Rattle.gw_plan.proofs.Keys.{none_some, some_same}

code_known : (code : List ℕ) (routes : List RouteHeld) → list_any (λ k. bytes_eq code k.code) (map key_of routes) ≡ is_code code (map route_value routes)
code_known code [] = refl
code_known code (r ∷ routes) = ap (λ b. bytes_eq code r.code || b) (code_known code routes)

-- the route of a number, from n on; or none
abbrev pub At : List RouteHeld → ℕ → Option ℕ → Option RouteValue → Type 0
At routes n None found = found ≡ None
At routes n (Some i) found = (r : RouteHeld) × (j : ℕ) × (i ≡ n + j) × (slice_get routes j ≡ Some r) × (found ≡ Some (route_value r))

-- the next element, behind one more
slice_get_next : {A : Type 0} (x : A) (xs : List A) (j : ℕ) (y : A) → slice_get xs j ≡ Some y → slice_get (x ∷ xs) (j + 1) ≡ Some y
slice_get_next x xs j y e = let n : suc j ≡ j + 1 = omega arith in subst (λ n. slice_get (x ∷ xs) n ≡ Some y) n e

route_at : (code event : List ℕ) (header : Header) (n : ℕ) (routes : List RouteHeld) → At routes n (position_from (is_key code event header) n (map key_of routes)) (route_for code event header (map route_value routes))
route_at code event header n [] = refl
route_at code event header n (r ∷ routes) = by ((bytes_eq code r.code && bytes_eq event r.event) && are_of header r.senders) (position_from (is_key code event header) (n + 1) (map key_of routes)) (route_at code event header (n + 1) routes)
  where
    by : (b : Bool) (next : Option ℕ) → At routes (n + 1) next (route_for code event header (map route_value routes))
        → At (r ∷ routes) n (if b then Some n else next) (if b then Some (route_value r) else route_for code event header (map route_value routes))
    by true next h = (r, 0, omega arith, refl, refl)
    by false None h = h
    by false (Some i) h = (h.0, h.1 + 1, omega (arith, h.2), slice_get_next r routes h.1 h.0 h.3, h.4)

-- what the tests of version and processing id make of a route's number
abbrev pub ByNumber : List RouteHeld → Bool → Bool → Result ℕ ℕ → Result RouteValue ℕ → Type 0
ByNumber routes version processing (Err code) said = said ≡ Err code
ByNumber routes version processing (Ok i) said = (r : RouteHeld) × (slice_get routes i ≡ Some r) × (said ≡ admitted version processing (Some (route_value r)))

by_parts : (routes : List RouteHeld) (v p known : Bool) (number : Option ℕ) (found : Option RouteValue) → At routes 0 number found
    → ByNumber routes v p (if known then number_if_some number else Err 200) (if known then admitted v p found else Err 200)
by_parts routes v p false number found h = refl
by_parts routes v p true None found h = ap (admitted v p) h
by_parts routes v p true (Some i) found h = (h.0, subst (λ k. slice_get routes k ≡ Some h.0) (omega (arith, h.2)) h.3, ap (admitted v p) h.4)

pub by_number : (code event : List ℕ) (header : Header) (routes : List RouteHeld) (v p : Bool) → ByNumber routes v p (number_for code event header (map key_of routes))
    (if is_code code (map route_value routes) then admitted v p (route_for code event header (map route_value routes)) else Err 200)
by_number code event header routes v p =
    subst (λ b. ByNumber routes v p (number_for code event header (map key_of routes)) (if b then admitted v p (route_for code event header (map route_value routes)) else Err 200)) (code_known code routes)
    (by_parts routes v p (list_any (λ k. bytes_eq code k.code) (map key_of routes)) (position_from (is_key code event header) 0 (map key_of routes)) (route_for code event header (map route_value routes)) (route_at code event header 0 routes))

-- the same of a number that was found
pub found_at : (routes : List RouteHeld) (v p : Bool) (number : ℕ) (said : Result RouteValue ℕ) → ByNumber routes v p (Ok number) said → FoundAt routes (tested v p number) said
found_at routes true true number said h = (h.0, h.1, h.2)
found_at routes true false number said h = h.2
found_at routes false p number said h = h.2

pub leg_keys : {A B : Type 0} (f : A → B) (receiver : ℕ) (es : List (ℕ × A)) → list_any (nat_eq receiver) (keys_of es) ≡ list_any (λ (l : ℕ × B). nat_eq receiver l.0) (map (λ l. (l.0, f l.1)) es)
leg_keys f receiver [] = refl
leg_keys f receiver (e ∷ es) = ap (λ b. nat_eq receiver e.0 || b) (leg_keys f receiver es)

-- whether a route goes to a receiver, seen from outside
pub any_legs : (receiver : ℕ) (ls : List (ℕ × CheckedValue)) → list_any (λ (l : ℕ × CheckedValue). nat_eq receiver l.0) ls ≡ list_any (λ (l : Leg). nat_eq receiver l.0) (map leg ls)
any_legs receiver [] = refl
any_legs receiver (l ∷ ls) = ap (λ b. nat_eq receiver l.0 || b) (any_legs receiver ls)

-- the value of a key among values that are seen otherwise
pub lookup_map : {A B : Type 0} (f : A → B) (receiver : ℕ) (es : List (ℕ × A)) → option_map f (lookup (nat_eq receiver) es) ≡ lookup (nat_eq receiver) (map (λ (l : ℕ × A). (l.0, f l.1)) es)
lookup_map f receiver [] = refl
lookup_map {A} {B} f receiver (e ∷ es) = by (nat_eq receiver e.0) (lookup_map f receiver es)
  where
    by : (b : Bool) → option_map f (lookup (nat_eq receiver) es) ≡ lookup (nat_eq receiver) (map (λ (l : ℕ × A). (l.0, f l.1)) es)
        → option_map f (if b then Some e.1 else lookup (nat_eq receiver) es) ≡ (if b then Some (f e.1) else lookup (nat_eq receiver) (map (λ (l : ℕ × A). (l.0, f l.1)) es))
    by true h = refl
    by false h = h

-- what holds of each value holds of one that is found
pub all_lookup : {A : Type 0} (P : A → Type 0) (receiver : ℕ) (es : List (ℕ × A)) (x : A) → AllByRecursion (λ (l : ℕ × A). P l.1) es → lookup (nat_eq receiver) es ≡ Some x → P x
all_lookup P receiver [] x all e = none_some None refl e
all_lookup {A} P receiver (l ∷ es) x all e = by (nat_eq receiver l.0) e (all_lookup P receiver es x all.1)
  where
    by : (b : Bool) → (if b then Some l.1 else lookup (nat_eq receiver) es) ≡ Some x → (lookup (nat_eq receiver) es ≡ Some x → P x) → P x
    by true e next = subst P (some_same e) all.0
    by false e next = next e

-- a map that is borrowed is that of the receiver
pub map_found : {M V : Type 0} (f : M → V) (receiver : ℕ) (es : List (ℕ × M)) (result : Option (Bor M)) → option_copied result ≡ lookup (nat_eq receiver) es
    → option_map (λ (m : Bor M). f m.now) result ≡ lookup (nat_eq receiver) (map (λ (l : ℕ × M). (l.0, f l.1)) es)
map_found f receiver es None e = ap (option_map f) e ∙ lookup_map f receiver es
map_found f receiver es (Some m) e = ap (option_map f) e ∙ lookup_map f receiver es

-- and it begins at the route's profile
pub map_takes : {M : Type 0} (f : M → CheckedValue) (receiver : ℕ) (route : RouteHeld) (result : Option (Bor M)) → IsRoute route → option_map (λ (m : Bor M). f m.now) result ≡ lookup (nat_eq receiver) route.legs
    → IfSome result (λ (m : Bor M). profile_value (f m.now).source ≡ profile_value route.profile)
map_takes f receiver route None is e = tt
map_takes f receiver route (Some m) is e = all_lookup (λ (c : CheckedValue). profile_value c.source ≡ profile_value route.profile) receiver route.legs (f m.now) is (sym e)

-- the route of a number, seen through two views of one plan
pub routed_at : (p one other : PlanHeld) (m : List SegmentValue) (number : ℕ) (r route : RouteHeld) → one ≡ p → other ≡ p → slice_get one.routes number ≡ Some r → slice_get other.routes number ≡ Some route
    → routed (plan_value one) m ≡ Ok (route_value r) → routed (plan_value p) m ≡ Ok (route_value route)
routed_at p one other m number r route e1 e2 s1 s2 h =
    ap (λ (q : PlanHeld). routed (plan_value q) m) (sym e1) ∙ h
    ∙ ap (λ (x : RouteHeld). Ok (route_value x)) (some_same (sym s1 ∙ ap (λ (q : PlanHeld). slice_get q.routes number) (e1 ∙ sym e2) ∙ s2))

pub ok_same : {X E : Type 0} {x y : X} (r : Result X E) → r ≡ Ok x → r ≡ Ok y → x ≡ y
ok_same r one other = cc

any_items : (words : List (Vec ℕ)) (text : List ℕ) → list_any (λ w. bytes_eq text w.items) words ≡ list_any (bytes_eq text) (map (λ w. w.items) words)
any_items [] text = refl
any_items (w ∷ words) text = ap (λ b. bytes_eq text w.items || b) (any_items words text)

pub accepted_some : (words : List (Vec ℕ)) (text : List ℕ) → nat_eq (length words) 0 ≡ false → list_any (λ w. bytes_eq text w.items) words ≡ is_accepted (map (λ w. w.items) words) text
accepted_some [] text some = absurd (cc)
accepted_some (w ∷ words) text some = any_items (w ∷ words) text

-- ---- one leg more

-- a new receiver goes last
leg_last : {A B : Type 0} (f : A → B) (receiver : ℕ) (es : List (ℕ × A)) (x : A) → list_any (λ (l : ℕ × B). nat_eq receiver l.0) (map (λ (l : ℕ × A). (l.0, f l.1)) es) ≡ false → insert_entry nat_eq es receiver x ≡ es ++ (receiver, x) ∷ []
leg_last f receiver [] x new = refl
leg_last {A} {B} f receiver (e ∷ es) x new = by (nat_eq receiver e.0) new (leg_last f receiver es x)
  where
    by : (b : Bool) → b || list_any (λ (l : ℕ × B). nat_eq receiver l.0) (map (λ (l : ℕ × A). (l.0, f l.1)) es) ≡ false
        → (list_any (λ (l : ℕ × B). nat_eq receiver l.0) (map (λ (l : ℕ × A). (l.0, f l.1)) es) ≡ false → insert_entry nat_eq es receiver x ≡ es ++ (receiver, x) ∷ [])
        → (if b then (e.0, x) ∷ es else e ∷ insert_entry nat_eq es receiver x) ≡ e ∷ (es ++ (receiver, x) ∷ [])
    by true n next = absurd (cc)
    by false n next = ap (λ l. e ∷ l) (next n)

pub leg_put : {A B : Type 0} (f : A → B) (receiver : ℕ) (es new : List (ℕ × A)) (x : A) → list_any (λ (l : ℕ × B). nat_eq receiver l.0) (map {B = ℕ × B} (λ (l : ℕ × A). (l.0, f l.1)) es) ≡ false
    → new ≡ insert_entry nat_eq es receiver x → map {B = ℕ × B} (λ (l : ℕ × A). (l.0, f l.1)) new ≡ map {B = ℕ × B} (λ (l : ℕ × A). (l.0, f l.1)) es ++ (receiver, f x) ∷ []
leg_put {A} {B} f receiver es new x none put = ap (map {B = ℕ × B} (λ (l : ℕ × A). (l.0, f l.1))) (put ∙ leg_last f receiver es x none) ∙ map-append {B = ℕ × B} (λ (l : ℕ × A). (l.0, f l.1)) es ((receiver, x) ∷ [])

all_push : {A : Type 0} (P : A → Type 0) (xs : List A) (x : A) → AllByRecursion P xs → P x → AllByRecursion P (xs ++ x ∷ [])
all_push P [] x all p = (p, tt)
all_push P (y ∷ xs) x all p = (all.0, all_push P xs x all.1 p)

-- a route is one with a leg more that begins at its profile
pub route_longer : (receiver : ℕ) (by : CheckedValue) (r : RouteHeld) → profile_value by.source ≡ profile_value r.profile → IsRoute r → IsRoute (longer receiver by r)
route_longer receiver by r source is = all_push (λ (l : ℕ × CheckedValue). profile_value l.1.source ≡ profile_value r.profile) r.legs (receiver, by) is source
