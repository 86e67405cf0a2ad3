-- What is prepared of a content before anything is written, and how a run under a plan comes on.
use Rattle.std.specs.Prelude.{◌≡◌, ℕ, ◌+◌, ◌<◌, List, [], ◌∷◌, ◌++◌, length, map, Option, Result, Ok, IfOk}
use Rattle.std.specs.Arc.{arc_value}
use Rattle.std.specs.List.{AllByRecursion, AllZip}
use Rattle.gw_ack.specs.declared.reply.Reply.{Reply}
use Rattle.gw_er7.specs.Message.{SegmentValue}
use Rattle.gw_plan.specs.Admitted.{ConformingHeld}
use Rattle.gw_plan.specs.Held.{plan_value}
use Rattle.gw_plan.specs.Routing.{routed}
use Rattle.gw_plan.specs.Shapes.{PlanValue, RouteValue}
use Rattle.gw_stream.specs.declared.delivery.Delivery as program
use Rattle.gw_stream.specs.declared.counts.Counts.{Counts}
use Rattle.gw_stream.specs.declared.fault.RunFault.{RunFault}
use Rattle.gw_stream.specs.declared.fault.RunFault.TheVariants.{Memory, Write}
use Rattle.gw_stream.specs.declared.judge.Outcome.{Outcome}
use Rattle.gw_stream.specs.declared.under_plan.UnderPlan.{UnderPlan}
use Rattle.gw_stream.specs.Answers.{IsSaidUnder, Message}
use Rattle.gw_stream.specs.Counted.{IsTotal, nothing, with_one}
use Rattle.gw_stream.specs.Posts.{Known, Post, Sends, SendsSome, receiver, sender}
use Rattle.gw_stream.specs.Served.{AreDeliveries, AreServings, Delivery, IsDelivery, IsServing, Routed, Serving}
use Rattle.gw_stream.specs.Served.{all_posts, delivered, posts_of, receivers_of, with_servings}
use Rattle.gw_stream.specs.Walked.{Place, Walks}

abbrev pub post : program.Delivery → Post
post prepared = record { whom = receiver prepared.receiver; bytes = prepared.block.items }

-- the blocks for receivers, and then the answer's
abbrev pub posts : List program.Delivery → List ℕ → List Post
posts prepared block = map post prepared ++ record { whom = sender; bytes = block } ∷ []

-- it holds what a receiver of the message's route is sent
pub record IsPrepared (m : List SegmentValue) (route : RouteValue) (receiver : ℕ) (prepared : program.Delivery) : Type 0 where
  pub delivery : Delivery
  pub is_delivery : IsDelivery m route receiver delivery
  pub is_post : post prepared ≡ delivered delivery

-- the same of a message that was admitted, if one was made
abbrev pub PreparesFor : {E : Type 0} → ConformingHeld → ℕ → Result program.Delivery E → Type 0
PreparesFor c number result =
    (route : RouteValue) → routed (plan_value c.plan) c.tree.message ≡ Ok route → IfOk result (IsPrepared c.tree.message route number)

-- they hold what the receivers of the message's route are sent, in its order
pub record ArePrepared (plan : PlanValue) (m : List SegmentValue) (prepared : List program.Delivery) : Type 0 where
  pub route : RouteValue
  pub routed_so : routed plan m ≡ Ok route
  pub each : AllZip (IsPrepared m route) (receivers_of route) prepared

-- each is for one of this many receivers
abbrev pub AreWithin : ℕ → List program.Delivery → Type 0
AreWithin count prepared = AllByRecursion (λ delivery. delivery.receiver < count) prepared

-- they hold what receivers are sent of what was read, where this is said
pub record Prepares (plan : PlanValue) (what : Option Message) (reply : Reply) (prepared : List program.Delivery) : Type 0 where
  pub deliveries : List Delivery
  pub are_deliveries : AreDeliveries plan what reply deliveries
  pub are_posts : map post prepared ≡ map delivered deliveries

-- what a judge under a plan settles
pub record PlanSettles (old new : UnderPlan) (number : ℕ) (what : Option Message) (outcome : Outcome) : Type 0 where
  pub plan : new.plan ≡ old.plan
  pub stamp : new.stamp ≡ old.stamp
  pub says : IsSaidUnder (Routed (plan_value (arc_value old.plan))) old.stamp number what outcome
  pub prepares : Prepares (plan_value (arc_value old.plan)) what outcome.reply new.deliveries.items
  pub within : AreWithin (length (arc_value old.plan).receivers) new.deliveries.items

-- a content got what it gets under a plan, sent whole and counted
pub record ServesOne (plan : PlanValue) (stamp content : List ℕ) (before after : Known) (c c' : Counts) : Type 0 where
  pub serving : Serving
  pub is_serving : IsServing plan stamp (c.answered + 1) content serving
  pub sends : Sends (posts_of serving) before after
  pub counted : c' ≡ with_one serving.answer.code (length serving.deliveries) c

-- it got nothing, where an allocation failed, or a part, where a writer failed
pub data ServesNot (plan : PlanValue) (stamp : List ℕ) (number : ℕ) (content : List ℕ) (before : Known) : Known → RunFault → Type 0 where
  nothing_sent : ServesNot plan stamp number content before before Memory
  cut : (after : Known) (serving : Serving) → IsServing plan stamp number content serving → SendsSome (posts_of serving) before after
      → ServesNot plan stamp number content before after Write

-- the same by a judge under that plan
abbrev pub ServesBy : UnderPlan → List ℕ → Counts → Counts → Known → Known → Type 0
ServesBy judge content c c' before after = ServesOne (plan_value (arc_value judge.plan)) judge.stamp content before after c c'

-- how it got nothing, or a part, by a judge under that plan
abbrev pub ServesNotBy : UnderPlan → List ℕ → Counts → RunFault → Known → Known → Type 0
ServesNotBy judge content c fault before after =
    ServesNot (plan_value (arc_value judge.plan)) judge.stamp (c.answered + 1) content before after fault

-- what all blocks that were given so far get was sent whole, and counted
pub record ServesSoFar (plan : PlanValue) (stamp : List ℕ) (left : Option (List ℕ)) (reads : ℕ) (here : Place)
    (before after : Known) (counts : Counts) : Type 0 where
  pub given : List (List ℕ)
  pub walks : Walks left reads here given
  pub servings : List Serving
  pub each : AreServings plan stamp 1 given servings
  pub sends : Sends (all_posts servings) before after
  pub counted : counts ≡ with_servings servings nothing
  pub number : counts.answered ≡ length given
  pub total : IsTotal counts
