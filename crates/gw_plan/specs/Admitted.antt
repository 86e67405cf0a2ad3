-- Messages that a plan admits.
use Rattle.std.specs.Prelude.{◌≡◌, ℕ, List, slice_get, Some, Ok, Err, nat_eq, true}
use Rattle.std.specs.List.{list_any}
use Rattle.gw_er7.specs.Message.{SegmentValue}
use Rattle.gw_profile.specs.Seen.{profile_value}
use Rattle.gw_validate.specs.Conforming.{Conforms}
use Rattle.gw_validate.specs.Broken.{IsLeast}
use Rattle.gw_validate.specs.Fitting.{TreeValue}
use Rattle.gw_validate.specs.declared.breach.Breach.{Breach}
use Rattle.gw_plan.specs.declared.conforming.Refusal as refusals
use Rattle.gw_plan.specs.Shapes.{RouteValue}
use Rattle.gw_plan.specs.Held.{RouteHeld, PlanHeld, plan_value, route_value}
use Rattle.gw_plan.specs.Routing.{routed}

-- a message with its tree, the number of its route, its plan and the plan's version
pub record ConformingHeld : Type 0 where
  pub tree : TreeValue
  pub number : ℕ
  pub plan : PlanHeld
  pub version : ℕ

-- the plan's route for the message is that of this number, and the tree is one of the route's profile
pub record IsConforming (c : ConformingHeld) : Type 0 where
  pub route : RouteHeld
  pub numbered : slice_get c.plan.routes c.number ≡ Some route
  pub routed_so : routed (plan_value c.plan) c.tree.message ≡ Ok (route_value route)
  pub profile : profile_value c.tree.profile ≡ profile_value route.profile

-- the message's route goes to this receiver
pub record IsOf (c : ConformingHeld) (receiver : ℕ) : Type 0 where
  pub route : RouteValue
  pub routed_so : routed (plan_value c.plan) c.tree.message ≡ Ok route
  pub goes : list_any (λ l. nat_eq receiver l.0) route.legs ≡ true

-- the version is this, and the plan's text is this one's
pub record IsUnder (c : ConformingHeld) (version : ℕ) (plan : PlanHeld) : Type 0 where
  pub same_version : c.version ≡ version
  pub same_text : c.plan.text ≡ plan.text

-- the same message, admitted under the same version and plan
pub record IsSameSource (c d : ConformingHeld) : Type 0 where
  pub message : c.tree.message ≡ d.tree.message
  pub version : c.version ≡ d.version
  pub text : c.plan.text ≡ d.plan.text

-- the plan has a route for the message, and it conforms to the route's profile
pub record IsAdmitted (plan : PlanHeld) (version : ℕ) (m : List SegmentValue) (c : ConformingHeld) : Type 0 where
  pub by_plan : c.plan ≡ plan
  pub by_version : c.version ≡ version
  pub message : c.tree.message ≡ m
  pub route : RouteValue
  pub routed_so : routed (plan_value plan) m ≡ Ok route
  pub conforms : Conforms route.profile m

-- the plan has a route for the message, and it breaks the route's profile first so
pub record BreaksSo (plan : PlanHeld) (m : List SegmentValue) (breach : Breach) : Type 0 where
  pub route : RouteValue
  pub routed_so : routed (plan_value plan) m ≡ Ok route
  pub least : IsLeast route.profile m breach
  pub fails : Conforms route.profile m → ⊥

-- why a message isn't admitted; it is returned
abbrev pub IsRefused : PlanHeld → List SegmentValue → refusals.Refusal → Type 0
IsRefused plan m (refusals.TheVariants.Memory back) = back ≡ m
IsRefused plan m (refusals.TheVariants.Route code back) = (routed (plan_value plan) m ≡ Err code) × (back ≡ m)
IsRefused plan m (refusals.TheVariants.Breaks breach back) = BreaksSo plan m breach × (back ≡ m)
