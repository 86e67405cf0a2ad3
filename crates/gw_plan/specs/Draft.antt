-- What the lines above say together, and what one line more makes of it.
use Rattle.std.specs.Prelude.{ℕ, ◌==◌, Bool, true, false, ◌&&◌, if◌then◌else◌, List, [], ◌∷◌, ◌++◌, Option, Some, None, bytes_eq, position, is_some, is_none, ◌||◌, Result, Ok, Err}
use Rattle.std.specs.List.{list_any}
use Rattle.std.specs.Option.{option_to_list}
use Rattle.gw_profile.specs.Shapes.{ProfileValue}
use Rattle.gw_plan.specs.declared.fault.PlanFault.{PlanFault}
use Rattle.gw_plan.specs.declared.fault.PlanFault.TheVariants.{Syntax, Duplicate, UnknownName, WrongMap}
use Rattle.gw_plan.specs.Shapes.{ReceiverValue, MapBetween, Leg, RouteValue, PlanValue, named}
use Rattle.gw_plan.specs.Senders.{Senders, says, again}
use Rattle.gw_plan.specs.Line.{Line, Begins, Widens, Receives, Versions, Processing, Opens, Routes, Delivers}

-- A plan so far: whether its first line was said, and is the last so far; whether `language 2` was. A `to` line belongs to the current route.
pub record Draft : Type 0 where
  pub begun : Bool
  pub fresh : Bool
  pub wide : Bool
  pub receivers : List ReceiverValue
  pub versions : List (List ℕ)
  pub processing : List (List ℕ)
  pub profiles : List ProfileValue
  pub maps : List MapBetween
  pub routes : List RouteValue
  pub current : Option RouteValue

abbrev pub nothing : Draft
nothing =
    record { begun = false; fresh = false; wide = false; receivers = []; versions = []; processing = []; profiles = []; maps = []; routes = []; current = None }

-- a line of another kind closes the current route
abbrev pub closed : Draft → Draft
closed d = record d { fresh = false; routes = d.routes ++ option_to_list d.current; current = None }

-- ---- what was declared above

abbrev pub profile_named : Draft → List ℕ → Option ProfileValue
profile_named d name = named (λ p. p.name) name d.profiles

abbrev pub map_named : Draft → List ℕ → Option MapBetween
map_named d name = named (λ b. b.map.name) name d.maps

abbrev pub is_receiver : List ℕ → ReceiverValue → Bool
is_receiver name r = bytes_eq name r.name

-- the number of a receiver, from 0
abbrev pub receiver_number : Draft → List ℕ → Option ℕ
receiver_number d name = position (is_receiver name) d.receivers

-- whether a route is for this code and event
abbrev pub is_for : List ℕ → List ℕ → RouteValue → Bool
is_for code event r = bytes_eq code r.code && bytes_eq event r.event

-- whether a route takes what is left of this code and event: none behind it is reached
abbrev pub takes_rest : List ℕ → List ℕ → RouteValue → Bool
takes_rest code event r = is_for code event r && is_none r.senders

-- whether a route is for this code and event and this word of these senders
abbrev pub takes_word : List ℕ → List ℕ → Senders → List ℕ → RouteValue → Bool
takes_word code event s word r = is_for code event r && says s.field word r.senders

-- whether routes above take what is left of a code and event, or one of these senders, or one is said twice
abbrev pub is_taken : List ℕ → List ℕ → Option Senders → List RouteValue → Bool
is_taken code event None routes = list_any (takes_rest code event) routes
is_taken code event (Some s) routes = list_any (takes_rest code event) routes || again (λ word. list_any (takes_word code event s word) routes) s.words

-- whether a leg goes to this receiver
abbrev pub goes : ℕ → Leg → Bool
goes receiver leg = receiver == leg.0

-- ---- lines

abbrev pub with_receiver : Draft → ℕ → List ℕ → List ℕ → Result Draft PlanFault
with_receiver d at name address =
    if is_some (receiver_number d name) then Err (Duplicate at)
    else Ok (record d { receivers = d.receivers ++ record { name = name; address = address } ∷ [] })

abbrev pub with_versions : Draft → List (List ℕ) → Draft
with_versions d accepted = record (closed d) { versions = d.versions ++ accepted }

abbrev pub with_processing : Draft → List (List ℕ) → Draft
with_processing d accepted = record (closed d) { processing = d.processing ++ accepted }

-- `language 2` comes right behind the first line
abbrev pub widened : Draft → ℕ → Result Draft PlanFault
widened d at = if d.fresh then Ok (record d { fresh = false; wide = true }) else Err (Syntax at)

-- the profile was declared above
abbrev pub with_profile : Draft → ℕ → List ℕ → List ℕ → Option Senders → Option ProfileValue → Result Draft PlanFault
with_profile d at code event senders None = Err (UnknownName at)
with_profile d at code event senders (Some profile) =
    Ok (record d { current = Some (record { code = code; event = event; senders = senders; profile = profile; legs = [] }) })

-- no route above takes what this one would
abbrev pub with_route : Draft → ℕ → List ℕ → List ℕ → Option Senders → Option ProfileValue → Result Draft PlanFault
with_route d at code event senders found =
    if is_taken code event senders d.routes then Err (Duplicate at) else with_profile d at code event senders found

-- senders are said in language 2 alone
abbrev pub is_said : Bool → Option Senders → Bool
is_said wide None = true
is_said wide (Some s) = wide

-- the map, if it was declared above, begins at the profile of the route
abbrev pub with_map : Draft → ℕ → RouteValue → ℕ → Option MapBetween → Result Draft PlanFault
with_map d at route receiver None = Err (UnknownName at)
with_map d at route receiver (Some by) =
    if bytes_eq by.source.name route.profile.name then Ok (record d { current = Some (record route { legs = route.legs ++ (receiver, by) ∷ [] }) })
    else Err (WrongMap at)

-- the receiver, if it was declared above, isn't one of the route's so far
abbrev pub with_leg : Draft → ℕ → RouteValue → Option ℕ → Option MapBetween → Result Draft PlanFault
with_leg d at route None by = Err (UnknownName at)
with_leg d at route (Some receiver) by =
    if list_any (goes receiver) route.legs then Err (Duplicate at) else with_map d at route receiver by

abbrev pub delivered : Draft → ℕ → Option RouteValue → List ℕ → List ℕ → Result Draft PlanFault
delivered d at None receiver map = Err (Syntax at)
delivered d at (Some route) receiver map = with_leg d at route (receiver_number d receiver) (map_named d map)

-- a receiver, a route and a leg more
abbrev pub adds_receiver : Draft → ℕ → List ℕ → List ℕ → Result Draft PlanFault
adds_receiver d at name address = with_receiver (closed d) at name address

abbrev pub adds_route : Draft → ℕ → List ℕ → List ℕ → Option Senders → List ℕ → Result Draft PlanFault
adds_route d at code event senders profile =
    if is_said d.wide senders then with_route (closed d) at code event senders (profile_named d profile) else Err (Syntax at)

abbrev pub adds_leg : Draft → ℕ → List ℕ → List ℕ → Result Draft PlanFault
adds_leg d at receiver map = delivered d at d.current receiver map

-- what a line makes of a plan that is begun; lines that open an inner text are not among them
abbrev pub below : Draft → ℕ → Line → Result Draft PlanFault
below d at (Begins name) = Err (Syntax at)
below d at Widens = widened d at
below d at (Receives name address) = adds_receiver d at name address
below d at (Versions accepted) = Ok (with_versions d accepted)
below d at (Processing accepted) = Ok (with_processing d accepted)
below d at (Opens kind) = Err (Syntax at)
below d at (Routes code event senders profile) = adds_route d at code event senders profile
below d at (Delivers receiver map) = adds_leg d at receiver map

-- the first line says that the text is a plan, and no other does
abbrev pub first : Draft → ℕ → Line → Result Draft PlanFault
first d at (Begins name) = Ok (record d { begun = true; fresh = true })
first d at line = Err (Syntax at)

-- what a line of its own makes of a plan
abbrev pub takes : Draft → ℕ → Line → Result Draft PlanFault
takes d at line = if d.begun then below d at line else first d at line

-- the plan that all lines say
abbrev pub plan_of : Draft → PlanValue
plan_of d =
    record { receivers = (closed d).receivers; versions = (closed d).versions; processing = (closed d).processing; routes = (closed d).routes }
