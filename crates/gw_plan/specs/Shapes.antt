-- What a plan says.
use Rattle.std.specs.Prelude.{ℕ, if◌then◌else◌, List, [], ◌∷◌, Option, Some, None, bytes_eq}
use Rattle.gw_profile.specs.Shapes.{ProfileValue}
use Rattle.gw_maplang.specs.Shapes.{MapValue}
use Rattle.gw_plan.specs.Senders.{Senders}

-- a receiver: its name, and where it is reached
pub record ReceiverValue : Type 0 where
  pub name : List ℕ
  pub address : List ℕ

-- a map with the profiles between which it goes
pub record MapBetween : Type 0 where
  pub source : ProfileValue
  pub target : ProfileValue
  pub map : MapValue

-- where a message goes by a route: the number of a receiver, from 0, and the map that makes what it is sent
abbrev pub Leg : Type 0
Leg = ℕ × MapBetween

-- The messages of this code and event, the empty text where a message says none, from these senders, all where none are said: the profile by which they are
-- judged, and where they go.
pub record RouteValue : Type 0 where
  pub code : List ℕ
  pub event : List ℕ
  pub senders : Option Senders
  pub profile : ProfileValue
  pub legs : List Leg

-- The receivers in order; the versions and processing ids that are accepted, any where none is said; the routes in order.
pub record PlanValue : Type 0 where
  pub receivers : List ReceiverValue
  pub versions : List (List ℕ)
  pub processing : List (List ℕ)
  pub routes : List RouteValue

-- the first of this name
abbrev pub named : {A : Type 0} → (A → List ℕ) → List ℕ → List A → Option A
named name_of name [] = None
named name_of name (x ∷ xs) = if bytes_eq name (name_of x) then Some x else named name_of name xs
