-- What a plan takes, and what it makes of a message for a receiver.
use Rattle.std.specs.Prelude.{◌≡◌, ℕ, List, map, Ok}
use Rattle.gw_er7.specs.Message.{SegmentValue, IsMessage}
use Rattle.gw_validate.specs.Conforming.{Conforms}
use Rattle.gw_plan.specs.Shapes.{PlanValue, RouteValue}
use Rattle.gw_plan.specs.Routing.{routed}
use Rattle.gw_plan.specs.Translating.{MakesFor}
use Rattle.gw_plan.specs.Whole.{spelled}
use Rattle.gw_gate.specs.Parts.{MessageSeen, ConformingSeen}
use Rattle.gw_gate.specs.Seen.{message_seen}

-- By the plan that its text spells the message has a route, which goes to these receivers, and it conforms to the route's profile.
pub record Admits (c : ConformingSeen) : Type 0 where
  pub message : List SegmentValue
  pub message_is : message_seen message ≡ c.message
  pub is_message : IsMessage message
  pub plan : PlanValue
  pub spells : spelled c.text ≡ Ok plan
  pub route : RouteValue
  pub routed_so : routed plan message ≡ Ok route
  pub receivers : map (λ l. l.0) route.legs ≡ c.receivers
  pub conforms : Conforms route.profile message

-- By the plan that the text spells the message conforms to the profile of its route, the map of the route for this receiver makes this of it, and what is made conforms to that map's target.
pub record Makes (text : List ℕ) (message : MessageSeen) (receiver : ℕ) (made : MessageSeen) : Type 0 where
  pub source : List SegmentValue
  pub source_is : message_seen source ≡ message
  pub result : List SegmentValue
  pub result_is : message_seen result ≡ made
  pub plan : PlanValue
  pub spells : spelled text ≡ Ok plan
  pub makes : MakesFor plan source receiver result
