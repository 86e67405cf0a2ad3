-- What the program holds of a plan so far, and what it means.
use Rattle.std.specs.Prelude.{◌≡◌, ℕ, Bool, List, [], ◌++◌, map, Some, Result, Ok}
use Rattle.std.specs.Option.{option_map, option_to_list, IfSome}
use Rattle.gw_lines.specs.Reading.{Gives}
use Rattle.gw_profile.specs.Shapes.{ProfileValue}
use Rattle.gw_profile.specs.Seen as profiles
use Rattle.gw_profile.specs.Seen.{profile_value}
use Rattle.gw_check.specs.Kept.{CheckedValue}
use Rattle.gw_plan.specs.declared.draft.Draft as declared
use Rattle.gw_plan.specs.declared.fault.PlanFault.{PlanFault}
use Rattle.gw_plan.specs.declared.fault.PlanFault.TheVariants.{Memory}
use Rattle.gw_plan.specs.declared.route_list.RouteList.{RouteList}
use Rattle.gw_plan.specs.Held.{RouteHeld, route_value, longer, IsNewLeg}
use Rattle.gw_plan.specs.Declarations.{profiles_of, maps_of, named_profile}
use Rattle.gw_plan.specs.Index.{Key, Indexes, said, with_key}
use Rattle.gw_plan.specs.Seen.{bytes_all}
use Rattle.gw_plan.specs.Kept.{key_of}
use Rattle.gw_plan.specs.Draft as Spec
use Rattle.gw_plan.specs.Draft.{adds_leg, adds_route, is_taken, with_route, profile_named}
use Rattle.gw_plan.specs.declared.form.RouteLine.{RouteLine}

-- ---- routes

abbrev pub all_routes : RouteList → List RouteHeld
all_routes l = l.closed.items ++ option_to_list l.current

-- all routes, the current one with them, are found by their codes, events and senders
abbrev pub IsListed : RouteList → Type 0
IsListed l = Indexes l.index (map key_of (all_routes l))

-- the key of a line that opens a route
abbrev pub key_said : RouteLine → Key
key_said route = record { code = route.code.now; event = route.event.now; senders = option_map said route.senders }

-- a route above takes already what such a line's would
abbrev pub is_line_taken : RouteLine → List RouteHeld → Bool
is_line_taken route above = is_taken route.code.now route.event.now (option_map said route.senders) (map route_value above)

-- the same with the key of a route more, which isn't there yet
abbrev pub IsClaimed : RouteLine → RouteList → Type 0
IsClaimed route l = Indexes l.index (with_key (key_said route) (map key_of (all_routes l)))

-- the route that such a line opens
abbrev pub opened : RouteLine → profiles.Contents → RouteHeld
opened route profile = record { code = route.code.now; event = route.event.now; senders = option_map said route.senders; profile = profile; legs = [] }

-- ---- the plan so far

abbrev pub draft_value : declared.Draft → Spec.Draft
draft_value d =
    record {
      begun = d.begun;
      fresh = d.fresh;
      wide = d.wide;
      receivers = d.receivers;
      versions = bytes_all d.versions.items;
      processing = bytes_all d.processing.items;
      profiles = profiles_of d.declarations;
      maps = maps_of d.declarations;
      routes = map route_value d.routes.closed.items;
      current = option_map route_value d.routes.current;
    }

-- the profile of a route is the one of its name among these
abbrev pub StandsAmong : List ProfileValue → RouteHeld → Type 0
StandsAmong profiles r = named_profile (profile_value r.profile).name profiles ≡ Some (profile_value r.profile)

-- the routes are found by their codes, events and senders, and the current one's profile was declared above
pub record IsKept (d : declared.Draft) : Type 0 where
  pub listed : IsListed d.routes
  pub declarations : IfSome d.routes.current (StandsAmong (profiles_of d.declarations))

-- a `to` line leads from the current route to this receiver by this map
pub record Leads (d : declared.Draft) (at : ℕ) (receiver map : List ℕ) (number : ℕ) (by : CheckedValue) : Type 0 where
  pub new : IfSome d.routes.current (IsNewLeg number by)
  pub delivers : adds_leg (draft_value d) at receiver map
      ≡ Ok (record (draft_value d) { current = option_map (λ r. route_value (longer number by r)) d.routes.current })

-- what a line that opens a route makes of a plan whose routes are closed, and of any
abbrev pub puts_route : Spec.Draft → ℕ → RouteLine → Result Spec.Draft PlanFault
puts_route d at route = with_route d at route.code.now route.event.now (option_map said route.senders) (profile_named d route.profile.now)

abbrev pub adds_said : Spec.Draft → ℕ → RouteLine → Result Spec.Draft PlanFault
adds_said d at route = adds_route d at route.code.now route.event.now (option_map said route.senders) route.profile.now

-- what a call made of a plan so far is what was said, unless memory ran out
abbrev pub Makes : {X : Type 0} → declared.Draft → Result X PlanFault → Result Spec.Draft PlanFault → Type 0
Makes {X} new result said = Gives Memory (λ (_ : X). draft_value new) result said

-- the same with how many of the lines that follow were taken
abbrev pub MakesBy : declared.Draft → Result ℕ PlanFault → Result (Spec.Draft × ℕ) PlanFault → Type 0
MakesBy new result said = Gives Memory (λ count. (draft_value new, count)) result said
