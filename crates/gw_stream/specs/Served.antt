-- What a content gets under a plan: its answer, and what its receivers are sent.
use Rattle.std.specs.Prelude.{◌≡◌, ℕ, ◌+◌, List, [], ◌∷◌, ◌++◌, length, map, Option, Some, IfSome, Result, Ok, Err, nat_eq}
use Rattle.std.specs.List.{AllZip, flat_map}
use Rattle.std.specs.Map.{lookup}
use Rattle.gw_ack.specs.declared.reply.Reply.{Reply}
use Rattle.gw_ack.specs.declared.reply.Reply.TheVariants.{Accept, Refuse, Reject}
use Rattle.gw_er7.specs.Message.{SegmentValue}
use Rattle.gw_er7.specs.Written.{written}
use Rattle.gw_interp.specs.Meaning.{Means}
use Rattle.gw_mllp.specs.Stream.{Has, Tail, block}
use Rattle.gw_plan.specs.Routing.{routed}
use Rattle.gw_plan.specs.Shapes.{MapBetween, PlanValue, RouteValue}
use Rattle.gw_resolve.specs.Naming.{resolved}
use Rattle.gw_validate.specs.declared.breach.Breach.{Breach}
use Rattle.gw_validate.specs.Broken.{IsTreeOf}
use Rattle.gw_validate.specs.Conforming.{Conforms}
use Rattle.gw_validate.specs.Trees.{Tree}
use Rattle.gw_stream.specs.declared.counts.Counts.{Counts}
use Rattle.gw_stream.specs.declared.fault.RunFault.{RunFault}
use Rattle.gw_stream.specs.declared.fault.RunFault.TheVariants.{Write}
use Rattle.gw_stream.specs.declared.judge.Outcome.{Outcome}
use Rattle.gw_stream.specs.Answers.{Answer, IsSaidUnder, IsSettled, Message, Validated}
use Rattle.gw_stream.specs.Counted.{nothing, with_one}
use Rattle.gw_stream.specs.Posts.{Known, Post, Sends, SendsSome, receiver, sender}
use Rattle.gw_stream.specs.Streams.{Ends, HasFirst}

-- ---- what is said

-- what is said to a message for which there is this route, or no route and this code
abbrev pub SaidBy : Result RouteValue ℕ → Message → Reply → Type 0
SaidBy (Ok route) m reply = Validated route.profile m reply
SaidBy (Err code) m reply = reply ≡ Reject code

-- What is said to a message under a plan: where it has a route, it is held against the route's profile;
-- else it is rejected under the code of the first route test that fails.
abbrev pub Routed : PlanValue → Message → Reply → Type 0
Routed plan m reply = SaidBy (routed plan m) m reply

-- ---- what is sent on

-- a message for a receiver
pub record Delivery : Type 0 where
  pub receiver : ℕ
  pub message : List SegmentValue

-- What a receiver of the message's route is sent: what the route's map for this receiver makes of the message and its tree. It conforms to that map's target.
pub record IsDelivery (m : List SegmentValue) (route : RouteValue) (receiver : ℕ) (delivery : Delivery) : Type 0 where
  pub to : delivery.receiver ≡ receiver
  pub by : MapBetween
  pub leg : lookup (nat_eq receiver) route.legs ≡ Some by
  pub tree : Tree
  pub is_tree : IsTreeOf route.profile m tree
  pub means : Means by.target (resolved by.source by.target by.map) m tree delivery.message
  pub conforms : Conforms by.target delivery.message

-- the receivers of a route, in its order
abbrev pub receivers_of : RouteValue → List ℕ
receivers_of route = map (λ leg. leg.0) route.legs

-- A message that is accepted goes to each receiver of its route, in the route's order; any other goes nowhere.
pub data AreDeliveries (plan : PlanValue) : Option Message → Reply → List Delivery → Type 0 where
  accepted : (m : Message) (route : RouteValue) → routed plan m ≡ Ok route → (deliveries : List Delivery)
      → AllZip (IsDelivery m route) (receivers_of route) deliveries → AreDeliveries plan (Some m) Accept deliveries
  refused : (what : Option Message) (breach : Breach) → AreDeliveries plan what (Refuse breach) []
  rejected : (what : Option Message) (code : ℕ) → AreDeliveries plan what (Reject code) []

-- ---- what a content gets

-- an answer, and messages for receivers
pub record Serving : Type 0 where
  pub answer : Answer
  pub deliveries : List Delivery

-- under this number this is said, and these messages are sent on
pub record Serves (plan : PlanValue) (stamp : List ℕ) (number : ℕ) (deliveries : List Delivery) (what : Option Message) (outcome : Outcome) : Type 0 where
  pub says : IsSaidUnder (Routed plan) stamp number what outcome
  pub sends : AreDeliveries plan what outcome.reply deliveries

-- what a content of this number gets under a plan
abbrev pub IsServing : PlanValue → List ℕ → ℕ → List ℕ → Serving → Type 0
IsServing plan stamp number content serving = IsSettled (Serves plan stamp number serving.deliveries) content serving.answer

-- what contents get, each its own and in order, numbered from this number on
abbrev pub AreServings : PlanValue → List ℕ → ℕ → List (List ℕ) → List Serving → Type 0
AreServings plan stamp number [] [] = Unit {0}
AreServings plan stamp number [] (s ∷ ss) = ⊥
AreServings plan stamp number (c ∷ cs) [] = ⊥
AreServings plan stamp number (c ∷ cs) (s ∷ ss) = IsServing plan stamp number c s × AreServings plan stamp (number + 1) cs ss

-- ---- what is written

abbrev pub delivered : Delivery → Post
delivered delivery = record { whom = receiver delivery.receiver; bytes = block (written delivery.message) }

-- the blocks for receivers, in the order of the route, and then the answer's
abbrev pub posts_of : Serving → List Post
posts_of serving = map delivered serving.deliveries ++ record { whom = sender; bytes = block serving.answer.content } ∷ []

abbrev pub all_posts : List Serving → List Post
all_posts servings = flat_map posts_of servings

-- these servings more
abbrev pub with_servings : List Serving → Counts → Counts
with_servings [] counts = counts
with_servings (serving ∷ servings) counts = with_servings servings (with_one serving.answer.code (length serving.deliveries) counts)

-- ---- a stream, served

-- Each writer's known bytes grew by its blocks of what all blocks of the stream get, and by nothing else, and these are their counts.
pub record ServesAll (plan : PlanValue) (stamp : List ℕ) (stream : Option (List ℕ)) (before after : Known) (tail : Tail) (counts : Counts) : Type 0 where
  pub contents : List (List ℕ)
  pub cut : IfSome stream (λ bytes. Has bytes contents tail)
  pub servings : List Serving
  pub each : AreServings plan stamp 1 contents servings
  pub sends : Sends (all_posts servings) before after
  pub counted : counts ≡ with_servings servings nothing

-- the same of the first blocks of the stream: what they get went out whole
pub record ServesFirst (plan : PlanValue) (stamp : List ℕ) (stream : Option (List ℕ)) (before after : Known) : Type 0 where
  pub contents : List (List ℕ)
  pub first : IfSome stream (λ bytes. HasFirst bytes contents)
  pub servings : List Serving
  pub each : AreServings plan stamp 1 contents servings
  pub sends : Sends (all_posts servings) before after

-- A beginning of what the first blocks of the stream get went out, in order.
pub record ServesPart (plan : PlanValue) (stamp : List ℕ) (stream : Option (List ℕ)) (before after : Known) : Type 0 where
  pub contents : List (List ℕ)
  pub first : IfSome stream (λ bytes. HasFirst bytes contents)
  pub servings : List Serving
  pub each : AreServings plan stamp 1 contents servings
  pub sends : SendsSome (all_posts servings) before after

-- what went out before a fault: all that was begun, where no writer failed
abbrev pub ServesUntil : PlanValue → List ℕ → Option (List ℕ) → Known → Known → RunFault → Type 0
ServesUntil plan stamp stream before after Write = ServesPart plan stamp stream before after
ServesUntil plan stamp stream before after fault = ServesFirst plan stamp stream before after

-- what a run did, by its result
abbrev pub EndsServed : PlanValue → List ℕ → Option (List ℕ) → Result Counts RunFault → Known → Known → Type 0
EndsServed plan stamp stream result before after = Ends (ServesAll plan stamp stream before after) (ServesUntil plan stamp stream before after) result
