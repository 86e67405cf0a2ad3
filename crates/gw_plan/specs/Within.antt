-- Where the legs of a plan's routes go.
use Rattle.std.specs.Prelude.{ℕ, ◌<◌, List, length}
use Rattle.std.specs.List.{AllByRecursion}
use Rattle.gw_plan.specs.Shapes.{Leg, RouteValue, PlanValue}

-- each leg goes to one of this many receivers
abbrev pub LegsWithin : ℕ → List Leg → Type 0
LegsWithin count legs = AllByRecursion (λ l. l.0 < count) legs

abbrev pub RoutesWithin : ℕ → List RouteValue → Type 0
RoutesWithin count routes = AllByRecursion (λ r. LegsWithin count r.legs) routes

-- each leg of a route goes to one of the plan's receivers
abbrev pub IsWithin : PlanValue → Type 0
IsWithin p = RoutesWithin (length p.receivers) p.routes
