-- What a receiver is sent of an admitted message.
use Rattle.std.specs.Prelude.{◌≡◌, ℕ, List, Some, Ok, nat_eq}
use Rattle.std.specs.Map.{lookup}
use Rattle.gw_er7.specs.Message.{SegmentValue, IsMessage}
use Rattle.gw_profile.specs.WellFormed.{WellFormed}
use Rattle.gw_validate.specs.Conforming.{Conforms}
use Rattle.gw_validate.specs.Broken.{IsTreeOf}
use Rattle.gw_validate.specs.Trees.{Tree}
use Rattle.gw_resolve.specs.Naming.{resolved}
use Rattle.gw_interp.specs.Meaning.{Means}
use Rattle.gw_plan.specs.Shapes.{MapBetween, RouteValue, PlanValue}
use Rattle.gw_plan.specs.Held.{plan_value}
use Rattle.gw_plan.specs.Routing.{routed}
use Rattle.gw_plan.specs.Admitted.{ConformingHeld, IsSameSource}

-- By this plan the message conforms to the profile of its route, and what is made is the message that the map of the route for the receiver makes of it and its tree. It conforms to that map's target.
pub record MakesFor (plan : PlanValue) (m : List SegmentValue) (receiver : ℕ) (made : List SegmentValue) : Type 0 where
  pub route : RouteValue
  pub routed_so : routed plan m ≡ Ok route
  pub formed : WellFormed route.profile
  pub source_is_message : IsMessage m
  pub source_conforms : Conforms route.profile m
  pub by : MapBetween
  pub leg : lookup (nat_eq receiver) route.legs ≡ Some by
  pub source : by.source ≡ route.profile
  pub tree : Tree
  pub is_tree : IsTreeOf route.profile m tree
  pub is_message : IsMessage made
  pub means : Means by.target (resolved by.source by.target by.map) m tree made
  pub conforms : Conforms by.target made

-- there is at most one such
abbrev pub AtMostOne : {A : Type 0} → (A → Type 0) → Type 0
AtMostOne {A} P = (made other : A) → P made → P other → made ≡ other

-- it is what the plan of an admitted message makes of it for this receiver
abbrev pub Translates : ConformingHeld → ℕ → List SegmentValue → Type 0
Translates c receiver made = MakesFor (plan_value c.plan) c.tree.message receiver made

-- what was made of an admitted message for a receiver
pub record TranslatedHeld : Type 0 where
  pub source : ConformingHeld
  pub receiver : ℕ
  pub message : List SegmentValue

-- the same, made of the same admitted message for the same receiver
pub record IsSameTranslated (a b : TranslatedHeld) : Type 0 where
  pub source : IsSameSource a.source b.source
  pub receiver : a.receiver ≡ b.receiver
  pub message : a.message ≡ b.message
