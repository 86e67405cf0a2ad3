-- Each leg of a plan goes to one of its receivers.
use Rattle.std.proofs.Common.{◌≡◌, ℕ, zero, suc, ◌+◌, ◌<◌, List, [], ◌∷◌, ◌++◌, length, Option, Some, None, Bool, true, false, refl, sym, subst, arith, length-append}
use Rattle.std.specs.Prelude.{Result, Ok, Err, IfOk, bytes_eq, nat_eq, is_some, ◌||◌, if◌then◌else◌}
use Rattle.std.specs.List.{list_any, AllByRecursion}
use Rattle.std.specs.Option.{IfSome, option_to_list}
use Rattle.std.proofs.lemmas.List.Quantifiers.{position-Some}
use Rattle.std.proofs.lemmas.Bool.{eqb-true}
use Rattle.gw_lines.specs.Words.{Word, words, lines}
use Rattle.gw_lines.specs.Reading.{◌>>=◌, is_too_large}
use Rattle.gw_profile.specs.Shapes.{ProfileValue}
use Rattle.gw_plan.specs.declared.fault.PlanFault.{PlanFault}
use Rattle.gw_plan.specs.declared.fault.PlanFault.TheVariants.{Syntax, Duplicate, WrongMap, TooLarge}
use Rattle.gw_plan.specs.Shapes.{ReceiverValue, MapBetween, Leg, RouteValue, PlanValue}
use Rattle.gw_plan.specs.declared.form.Kind.{Kind}
use Rattle.gw_plan.specs.declared.form.Kind.TheVariants.{Profile, Map}
use Rattle.gw_plan.specs.Line.{Line, Begins, Widens, Receives, Versions, Processing, Opens, Routes, Delivers, form}
use Rattle.gw_plan.specs.Draft.{Draft, nothing, closed, is_receiver, goes, receiver_number, map_named, profile_named, with_receiver, with_profile, with_route, is_said, is_taken, with_map, with_leg, delivered, below, first, takes, plan_of}
use Rattle.gw_plan.specs.Inner.{Inner, inner_profile, inner_map, with_inner_profile, with_inner_map, takes_part}
use Rattle.gw_plan.specs.Whole.{Taken, inner, and_lines, lines_of_inner, takes_inner, takes_line, takes_words, takes_next, reads, begun, drafted, spelled, most_bytes, most_lines}
use Rattle.gw_plan.specs.Within.{LegsWithin, RoutesWithin, IsWithin}
use Rattle.gw_er7.specs.Message.{SegmentValue}
use Rattle.gw_plan.specs.Held.{plan_value}
use Rattle.gw_plan.specs.Senders.{Senders, Header}
use Rattle.gw_plan.specs.Routing as routing
use Rattle.gw_plan.specs.Routing.{header_of, header_text, is_code, is_accepted, route_for, admitted, routed}
use Rattle.gw_plan.specs.Admitted.{ConformingHeld, IsOf}

-- the legs of all routes so far go to receivers so far
record Within (d : Draft) : Type 0 where
  routes : RoutesWithin (length d.receivers) d.routes
  current : IfSome d.current (λ r. LegsWithin (length d.receivers) r.legs)

all_push : {A : Type 0} (P : A → Type 0) (xs : List A) (x : A) → AllByRecursion P xs → P x → AllByRecursion P (xs ++ x ∷ [])
all_push P [] x all p = (p, tt)
all_push P (y ∷ xs) x all p = (all.0, all_push P xs x all.1 p)

all_closed : {A : Type 0} (P : A → Type 0) (xs : List A) (o : Option A) → AllByRecursion P xs → IfSome o P → AllByRecursion P (xs ++ option_to_list o)
all_closed P [] None all p = tt
all_closed P (y ∷ xs) None all p = (all.0, all_closed P xs None all.1 p)
all_closed P xs (Some x) all p = all_push P xs x all p

all_weaken : {A : Type 0} (P Q : A → Type 0) (xs : List A) → ((x : A) → P x → Q x) → AllByRecursion P xs → AllByRecursion Q xs
all_weaken P Q [] f all = tt
all_weaken P Q (x ∷ xs) f all = (f x all.0, all_weaken P Q xs f all.1)

-- ---- line by line

closed_within : (d : Draft) → Within d → Within (closed d)
closed_within d h = record { routes = all_closed (λ (r : RouteValue). LegsWithin (length d.receivers) r.legs) d.routes d.current h.routes h.current; current = tt }

more_legs : (count : ℕ) (legs : List Leg) → LegsWithin count legs → LegsWithin (count + 1) legs
more_legs count legs h = all_weaken (λ (l : Leg). l.0 < count) (λ (l : Leg). l.0 < count + 1) legs (λ l k. omega arith) h

one_more : (receivers : List ReceiverValue) (r : ReceiverValue) → length receivers + 1 ≡ length (receivers ++ r ∷ [])
one_more receivers r = omega (arith, length-append receivers (r ∷ []))

-- behind a closed route
receiver_within : (d : Draft) (at : ℕ) (name address : List ℕ) → RoutesWithin (length d.receivers) d.routes → d.current ≡ None → IfOk (with_receiver d at name address) Within
receiver_within d at name address h none = by (is_some (receiver_number d name))
  where
    by : (b : Bool) → IfOk (if b then Err (Duplicate at) else Ok (record d { receivers = d.receivers ++ record { name = name; address = address } ∷ [] })) Within
    by true = tt
    by false = record {
      routes =
          subst (λ count. RoutesWithin count d.routes) (one_more d.receivers (record { name = name; address = address }))
          (all_weaken (λ (r : RouteValue). LegsWithin (length d.receivers) r.legs) (λ (r : RouteValue). LegsWithin (length d.receivers + 1) r.legs) d.routes (λ r k. more_legs (length d.receivers) r.legs k) h);
      current = subst (λ (o : Option RouteValue). IfSome o (λ r. LegsWithin (length (d.receivers ++ record { name = name; address = address } ∷ [])) r.legs)) (sym none) tt;
    }

route_within : (d : Draft) (at : ℕ) (code event : List ℕ) (senders : Option Senders) (found : Option ProfileValue) → RoutesWithin (length d.receivers) d.routes → IfOk (with_route d at code event senders found) Within
route_within d at code event senders found h = by (is_taken code event senders d.routes) found
  where
    by : (b : Bool) (found : Option ProfileValue) → IfOk (if b then Err (Duplicate at) else with_profile d at code event senders found) Within
    by true found = tt
    by false None = tt
    by false (Some profile) = record { routes = h; current = tt }

map_within : (d : Draft) (at : ℕ) (route : RouteValue) (receiver : ℕ) (by : Option MapBetween) → Within d → LegsWithin (length d.receivers) route.legs → receiver < length d.receivers → IfOk (with_map d at route receiver by) Within
map_within d at route receiver None h legs is = tt
map_within d at route receiver (Some b) h legs is = told (bytes_eq b.source.name route.profile.name)
  where
    told : (same : Bool) → IfOk (if same then Ok (record d { current = Some (record route { legs = route.legs ++ (receiver, b) ∷ [] }) }) else Err (WrongMap at)) Within
    told true = record { routes = h.routes; current = all_push (λ (l : Leg). l.0 < length d.receivers) route.legs (receiver, b) legs is }
    told false = tt

leg_within : (d : Draft) (at : ℕ) (route : RouteValue) (number : Option ℕ) (by : Option MapBetween) → Within d → LegsWithin (length d.receivers) route.legs → ((i : ℕ) → number ≡ Some i → i < length d.receivers) → IfOk (with_leg d at route number by) Within
leg_within d at route None by h legs is = tt
leg_within d at route (Some i) by h legs is = told (list_any (goes i) route.legs) (map_within d at route i by h legs (is i refl))
  where
    told : (b : Bool) → IfOk (with_map d at route i by) Within → IfOk (if b then Err (Duplicate at) else with_map d at route i by) Within
    told true k = tt
    told false k = k

delivered_within : (d : Draft) (at : ℕ) (current : Option RouteValue) (receiver map : List ℕ) → Within d → IfSome current (λ r. LegsWithin (length d.receivers) r.legs) → IfOk (delivered d at current receiver map) Within
delivered_within d at None receiver map h k = tt
delivered_within d at (Some route) receiver map h k =
    leg_within d at route (receiver_number d receiver) (map_named d map) h k (λ i e. (position-Some (is_receiver receiver) d.receivers i (record { name = []; address = [] }) e).0)

below_within : (d : Draft) (at : ℕ) (line : Line) → Within d → IfOk (below d at line) Within
below_within d at (Begins name) h = tt
below_within d at Widens h = by d.fresh
  where
    by : (b : Bool) → IfOk (if b then Ok (record d { fresh = false; wide = true }) else Err (Syntax at)) Within
    by true = record { routes = h.routes; current = h.current }
    by false = tt
below_within d at (Receives name address) h = receiver_within (closed d) at name address (closed_within d h).routes refl
below_within d at (Versions accepted) h = record { routes = (closed_within d h).routes; current = tt }
below_within d at (Processing accepted) h = record { routes = (closed_within d h).routes; current = tt }
below_within d at (Opens kind) h = tt
below_within d at (Routes code event senders profile) h = by (is_said d.wide senders)
  where
    by : (b : Bool) → IfOk (if b then with_route (closed d) at code event senders (profile_named d profile) else Err (Syntax at)) Within
    by true = route_within (closed d) at code event senders (profile_named d profile) (closed_within d h).routes
    by false = tt
below_within d at (Delivers receiver map) h = delivered_within d at d.current receiver map h h.current

first_within : (d : Draft) (at : ℕ) (line : Line) → Within d → IfOk (first d at line) Within
first_within d at (Begins name) h = record { routes = h.routes; current = h.current }
first_within d at Widens h = tt
first_within d at (Receives name address) h = tt
first_within d at (Versions accepted) h = tt
first_within d at (Processing accepted) h = tt
first_within d at (Opens kind) h = tt
first_within d at (Routes code event senders profile) h = tt
first_within d at (Delivers receiver map) h = tt

takes_within : (d : Draft) (at : ℕ) (line : Line) → Within d → IfOk (takes d at line) Within
takes_within d at line h = by d.begun (below_within d at line h) (first_within d at line h)
  where
    by : (b : Bool) → IfOk (below d at line) Within → IfOk (first d at line) Within → IfOk (if b then below d at line else first d at line) Within
    by true one other = one
    by false one other = other

-- ---- inner texts

profile_within : (d : Draft) (said : Result ProfileValue PlanFault) → Within d → IfOk (with_inner_profile d said) Within
profile_within d (Ok p) h = record { routes = (closed_within d h).routes; current = tt }
profile_within d (Err fault) h = tt

between_within : (d : Draft) (said : Result MapBetween PlanFault) → Within d → IfOk (with_inner_map d said) Within
between_within d (Ok b) h = record { routes = (closed_within d h).routes; current = tt }
between_within d (Err fault) h = tt

part_within : (d : Draft) (kind : Kind) (p : Inner) → Within d → IfOk (takes_part d kind p) Within
part_within d Profile p h = profile_within d (inner_profile d.profiles p) h
part_within d Map p h = between_within d (inner_map d.profiles d.maps p) h

-- ---- all lines

abbrev TakenWithin : Taken → Type 0
TakenWithin taken = IfOk taken (λ next. Within next.0)

counted_within : (count : ℕ) (r : Result Draft PlanFault) → IfOk r Within → TakenWithin (and_lines count r)
counted_within count (Ok d) h = h
counted_within count (Err fault) h = tt

inner_within : (d : Draft) (at : ℕ) (kind : Kind) (more : List (List ℕ)) → Within d → TakenWithin (takes_inner d at kind more)
inner_within d at kind more h = by d.begun
  where
    by : (b : Bool) → TakenWithin (if b then and_lines (lines_of_inner more) (takes_part d kind (inner at more)) else Err (Syntax at))
    by true = counted_within (lines_of_inner more) (takes_part d kind (inner at more)) (part_within d kind (inner at more) h)
    by false = tt

line_within : (d : Draft) (at : ℕ) (line : Option Line) (more : List (List ℕ)) → Within d → TakenWithin (takes_line d at line more)
line_within d at None more h = tt
line_within d at (Some (Begins name)) more h = counted_within 0 (takes d at (Begins name)) (takes_within d at (Begins name) h)
line_within d at (Some Widens) more h = counted_within 0 (takes d at Widens) (takes_within d at Widens h)
line_within d at (Some (Receives name address)) more h = counted_within 0 (takes d at (Receives name address)) (takes_within d at (Receives name address) h)
line_within d at (Some (Versions accepted)) more h = counted_within 0 (takes d at (Versions accepted)) (takes_within d at (Versions accepted) h)
line_within d at (Some (Processing accepted)) more h = counted_within 0 (takes d at (Processing accepted)) (takes_within d at (Processing accepted) h)
line_within d at (Some (Opens kind)) more h = inner_within d at kind more h
line_within d at (Some (Routes code event senders profile)) more h = counted_within 0 (takes d at (Routes code event senders profile)) (takes_within d at (Routes code event senders profile) h)
line_within d at (Some (Delivers receiver map)) more h = counted_within 0 (takes d at (Delivers receiver map)) (takes_within d at (Delivers receiver map) h)

words_within : (d : Draft) (at : ℕ) (said : Option (List Word)) (more : List (List ℕ)) → Within d → TakenWithin (takes_words d at said more)
words_within d at None more h = tt
words_within d at (Some []) more h = h
words_within d at (Some (w ∷ ws)) more h = line_within d at (form (w ∷ ws)) more h

next_within : (d : Draft) (skip at : ℕ) (line : List ℕ) (more : List (List ℕ)) → Within d → TakenWithin (takes_next d skip at line more)
next_within d zero at line more h = words_within d at (words line) more h
next_within d (suc skip) at line more h = h

reads_within : (d : Draft) (skip at : ℕ) (all : List (List ℕ)) → Within d → IfOk (reads d skip at all) Within
reads_within d skip at [] h = h
reads_within d skip at (line ∷ more) h = by (takes_next d skip at line more) (next_within d skip at line more h) (λ next count k. reads_within next count (at + 1) more k)
  where
    by : (taken : Taken) → TakenWithin taken → ((next : Draft) (count : ℕ) → Within next → IfOk (reads next count (at + 1) more) Within) → IfOk (taken >>= λ next. reads next.0 next.1 (at + 1) more) Within
    by (Ok next) k go = go next.0 next.1 k
    by (Err fault) k go = tt

whole_within : (text : List ℕ) → IfOk (drafted text) Within
whole_within text = by (is_too_large most_bytes most_lines text) (reads nothing 0 1 (lines text)) (reads_within nothing 0 1 (lines text) (record { routes = tt; current = tt }))
  where
    at_last : (d : Draft) (b : Bool) → Within d → IfOk (if b then Ok d else Err (Syntax (length (lines text) + 1))) Within
    at_last d true h = h
    at_last d false h = tt

    by : (b : Bool) (r : Result Draft PlanFault) → IfOk r Within → IfOk (if b then Err TooLarge else (r >>= λ d. begun d (length (lines text) + 1))) Within
    by true r h = tt
    by false (Ok d) h = at_last d d.begun h
    by false (Err fault) h = tt

-- the plan that a text spells
pub spelled_within : (text : List ℕ) (p : PlanValue) → spelled text ≡ Ok p → IsWithin p
spelled_within text p e = by (drafted text) (whole_within text) e
  where
    by : (r : Result Draft PlanFault) → IfOk r Within → (r >>= λ d. Ok (plan_of d)) ≡ Ok p → IsWithin p
    by (Ok d) h same = let is : plan_of d ≡ p = cc in subst IsWithin is (closed_within d h).routes
    by (Err fault) h same = absurd (cc)

-- ---- a route that goes to a receiver

receiver_is : (count receiver : ℕ) (legs : List Leg) → LegsWithin count legs → list_any (λ l. nat_eq receiver l.0) legs ≡ true → receiver < count
receiver_is count receiver [] all e = absurd (cc)
receiver_is count receiver (l ∷ legs) all e = by (nat_eq receiver l.0) refl e (receiver_is count receiver legs all.1)
  where
    by : (b : Bool) → nat_eq receiver l.0 ≡ b → b || list_any (λ l. nat_eq receiver l.0) legs ≡ true → (list_any (λ l. nat_eq receiver l.0) legs ≡ true → receiver < count) → receiver < count
    by true same e next = subst (λ n. n < count) (sym (eqb-true receiver l.0 same)) all.0
    by false same e next = next e

route_within_all : (count : ℕ) (code event : List ℕ) (header : Header) (routes : List RouteValue) (r : RouteValue) → RoutesWithin count routes → route_for code event header routes ≡ Some r → LegsWithin count r.legs
route_within_all count code event header [] r all e = absurd (cc)
route_within_all count code event header (x ∷ routes) r all e = by (routing.takes code event header x) e (route_within_all count code event header routes r all.1)
  where
    by : (b : Bool) → (if b then Some x else route_for code event header routes) ≡ Some r → (route_for code event header routes ≡ Some r → LegsWithin count r.legs) → LegsWithin count r.legs
    by true same next = let is : x ≡ r = cc in subst (λ (y : RouteValue). LegsWithin count y.legs) is all.0
    by false same next = next same

admitted_is : (version processing : Bool) (found : Option RouteValue) (r : RouteValue) → admitted version processing found ≡ Ok r → found ≡ Some r
admitted_is version processing None r e = absurd (cc)
admitted_is true true (Some x) r e = cc
admitted_is true false (Some x) r e = absurd (cc)
admitted_is false processing (Some x) r e = absurd (cc)

-- the route of a message goes to receivers of its plan
routed_within : (p : PlanValue) (m : List SegmentValue) (r : RouteValue) → IsWithin p → routed p m ≡ Ok r → LegsWithin (length p.receivers) r.legs
routed_within p m r h e = by (is_code (header_text m 9 1) p.routes) e
  where
    by : (b : Bool) → (if b then admitted (is_accepted p.versions (header_text m 12 1)) (is_accepted p.processing (header_text m 11 1)) (route_for (header_text m 9 1) (header_text m 9 2) (header_of m) p.routes) else Err 200) ≡ Ok r → LegsWithin (length p.receivers) r.legs
    by true same = route_within_all (length p.receivers) (header_text m 9 1) (header_text m 9 2) (header_of m) p.routes r h (admitted_is _ _ _ r same)
    by false same = absurd (cc)

pub of_receiver : (c : ConformingHeld) (receiver : ℕ) → IsWithin (plan_value c.plan) → IsOf c receiver → receiver < length c.plan.receivers
of_receiver c receiver h x = receiver_is (length c.plan.receivers) receiver x.route.legs (routed_within (plan_value c.plan) c.tree.message x.route h x.routed_so) x.goes
