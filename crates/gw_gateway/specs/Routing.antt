-- What a plan says of a message in a gateway's log: which receivers it goes to, by their numbers.
use Rattle.std.specs.Prelude.{◌≡◌, ℕ, List, map, slice_get, Some, Ok}
use Rattle.std.specs.List.{AllZip, Contains}
use Rattle.gw_er7.specs.Message.{SegmentValue, IsMessage}
use Rattle.gw_er7.specs.Written.{written}
use Rattle.gw_validate.specs.Conforming.{Conforms}
use Rattle.gw_plan.specs.Shapes.{PlanValue, ReceiverValue, RouteValue}
use Rattle.gw_plan.specs.Routing.{routed}
use Rattle.gw_plan.specs.Whole.{spelled}
use Rattle.gw_due.specs.Due.{Name}

-- the number was given to this receiver's name
abbrev pub IsNumber : List Name → ReceiverValue → ℕ → Type 0
IsNumber names receiver number = Contains names (record { number = number; name = receiver.name })

-- a leg of a route goes to one of these receivers, which has this number
pub record GoesTo (names : List Name) (receivers : List ReceiverValue) (leg number : ℕ) : Type 0 where
  pub receiver : ReceiverValue
  pub there : slice_get receivers leg ≡ Some receiver
  pub named : IsNumber names receiver number

-- The text spells a plan, and the bytes are the written form of a message. The plan has a route for the message, which conforms to the
-- route's profile. These are the numbers of the route's receivers, in its order.
pub record IsRoutedBy (names : List Name) (text to bytes : List ℕ) : Type 0 where
  pub plan : PlanValue
  pub spells : spelled text ≡ Ok plan
  pub message : List SegmentValue
  pub is_message : IsMessage message
  pub written_so : bytes ≡ written message
  pub route : RouteValue
  pub routed_so : routed plan message ≡ Ok route
  pub conforms : Conforms route.profile message
  pub receivers : AllZip (GoesTo names plan.receivers) (map (λ leg. leg.0) route.legs) to
