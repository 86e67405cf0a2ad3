-- What the program holds of a plan, and what it means.
use Rattle.std.specs.Prelude.{◌≡◌, ℕ, Bool, false, nat_eq, if◌then◌else◌, List, [], ◌∷◌, ◌++◌, map, slice_get, Option, Some, Result, Ok, Err}
use Rattle.std.specs.List.{AllByRecursion, list_any}
use denote.Ref.{Bor}
use Rattle.gw_er7.specs.Message.{SegmentValue}
use Rattle.gw_profile.specs.Seen as profiles
use Rattle.gw_profile.specs.Seen.{profile_value}
use Rattle.gw_maplang.specs.Seen.{map_value}
use Rattle.gw_check.specs.Kept.{CheckedValue}
use Rattle.gw_plan.specs.Shapes.{ReceiverValue, MapBetween, Leg, RouteValue, PlanValue}
use Rattle.gw_plan.specs.Senders.{Senders}
use Rattle.gw_plan.specs.Routing.{header_text, is_accepted}

-- a route, with its borrowed profile and maps
pub record RouteHeld : Type 0 where
  pub code : List ℕ
  pub event : List ℕ
  pub senders : Option Senders
  pub profile : profiles.Contents
  pub legs : List (ℕ × CheckedValue)

-- a plan, with its text
pub record PlanHeld : Type 0 where
  pub text : List ℕ
  pub receivers : List ReceiverValue
  pub versions : List (List ℕ)
  pub processing : List (List ℕ)
  pub routes : List RouteHeld

abbrev pub map_between : CheckedValue → MapBetween
map_between c = record { source = profile_value c.source; target = profile_value c.target; map = map_value c.map }

abbrev pub leg : ℕ × CheckedValue → Leg
leg l = (l.0, map_between l.1)

abbrev pub route_value : RouteHeld → RouteValue
route_value r = record { code = r.code; event = r.event; senders = r.senders; profile = profile_value r.profile; legs = map leg r.legs }

abbrev pub plan_value : PlanHeld → PlanValue
plan_value p = record { receivers = p.receivers; versions = p.versions; processing = p.processing; routes = map route_value p.routes }

-- every map of a route begins at the route's profile
abbrev pub IsRoute : RouteHeld → Type 0
IsRoute r = AllByRecursion (λ l. profile_value l.1.source ≡ profile_value r.profile) r.legs

-- with one leg more
abbrev pub longer : ℕ → CheckedValue → RouteHeld → RouteHeld
longer receiver by r = record r { legs = r.legs ++ (receiver, by) ∷ [] }

-- the receiver is new to the route, and the map begins at the route's profile
pub record IsNewLeg (receiver : ℕ) (by : CheckedValue) (r : RouteHeld) : Type 0 where
  pub new : list_any (λ l. nat_eq receiver l.0) r.legs ≡ false
  pub source : profile_value by.source ≡ profile_value r.profile

-- a route that was found, or the code that was answered
abbrev pub borrowed_route : Result (Bor RouteHeld) ℕ → Result RouteValue ℕ
borrowed_route (Ok r) = Ok (route_value r.now)
borrowed_route (Err code) = Err code

-- the tests of version and processing id, for a route of this number
abbrev pub tested : Bool → Bool → ℕ → Result ℕ ℕ
tested version processing number = if version then (if processing then Ok number else Err 202) else Err 203

-- the same tests of a message
abbrev pub tested_for : PlanHeld → List SegmentValue → ℕ → Result ℕ ℕ
tested_for p m number = tested (is_accepted p.versions (header_text m 12 1)) (is_accepted p.processing (header_text m 11 1)) number

-- the number of a route that was found, from 0, or the code that was answered
abbrev pub FoundAt : List RouteHeld → Result ℕ ℕ → Result RouteValue ℕ → Type 0
FoundAt routes (Ok number) said = (r : RouteHeld) × (slice_get routes number ≡ Some r) × (said ≡ Ok (route_value r))
FoundAt routes (Err code) said = said ≡ Err code
