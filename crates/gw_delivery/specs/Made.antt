-- What a receiver is sent of a message, by the log.
use Rattle.std.specs.Prelude.{◌≡◌, ℕ, List, Some, Ok, slice_get}
use Rattle.gw_er7.specs.Message.{SegmentValue}
use Rattle.gw_er7.specs.Reading.{Reads}
use Rattle.gw_er7.specs.Written.{written}
use Rattle.gw_plan.specs.Admitted.{ConformingHeld}
use Rattle.gw_plan.specs.Held.{plan_value}
use Rattle.gw_plan.specs.Shapes.{PlanValue, ReceiverValue}
use Rattle.gw_plan.specs.Translating.{MakesFor, Translates}
use Rattle.gw_plan.specs.Whole.{spelled}
use Rattle.gw_due.specs.Events.{Event, Accepted, Again}
use Rattle.gw_due.specs.Due.{plan_at}
use Rattle.gw_delivery.specs.Seen.{IsEventAt}

-- the receiver at this place of a plan's list has this name
pub record IsNamed (receivers : List ReceiverValue) (at : ℕ) (name : List ℕ) : Type 0 where
  pub receiver : ReceiverValue
  pub there : slice_get receivers at ≡ Some receiver
  pub name_is : receiver.name ≡ name

-- these bytes are the written form of what the plan of an admitted message makes of it for this receiver, and its text spells that plan
pub record IsWrittenFor (c : ConformingHeld) (receiver : ℕ) (bytes : List ℕ) : Type 0 where
  pub made : List SegmentValue
  pub translates : Translates c receiver made
  pub spells : spelled c.plan.text ≡ Ok (plan_value c.plan)
  pub are : bytes ≡ written made

-- The text spells a plan, and the content reads as a message. These bytes are the written form of what the plan makes of it for the receiver of this name.
pub record IsMade (text name content bytes : List ℕ) : Type 0 where
  pub plan : PlanValue
  pub spells : spelled text ≡ Ok plan
  pub message : List SegmentValue
  pub reads : Reads content message
  pub receiver : ℕ
  pub named : IsNamed plan.receivers receiver name
  pub made : List SegmentValue
  pub makes : MakesFor plan message receiver made
  pub are : bytes ≡ written made

-- by the event at this place the message at that one is due to a receiver once more
pub record IsAgainAt (place at : ℕ) (log : List Event) : Type 0 where
  pub receiver : ℕ
  pub there : IsEventAt place (Again receiver at) log

-- these bytes are what the plan in force at a place makes of the message that was accepted there
pub record IsMadeThere (name : List ℕ) (at : ℕ) (bytes : List ℕ) (log : List Event) : Type 0 where
  pub number : ℕ
  pub to : List ℕ
  pub content : List ℕ
  pub there : IsEventAt at (Accepted number to content) log
  pub made : IsMade (plan_at at log) name content bytes

-- What is due at a place is this content, which was accepted at that one: there itself, or where the event there says.
pub data IsDueAt (log : List Event) (place : ℕ) : (at : ℕ) → (content : List ℕ) → Type 0 where
  for_once : (number : ℕ) (to content : List ℕ) → IsEventAt place (Accepted number to content) log → IsDueAt log place place content
  once_more : (receiver at number : ℕ) (to content : List ℕ) → IsEventAt place (Again receiver at) log
      → IsEventAt at (Accepted number to content) log → IsDueAt log place at content

-- By this log, these bytes are what the receiver of this name is sent of what is due at a place:
-- what is made of it by the plan that was in force where it was accepted.
pub record IsMadeAt (name : List ℕ) (place : ℕ) (bytes : List ℕ) (log : List Event) : Type 0 where
  pub at : ℕ
  pub content : List ℕ
  pub due : IsDueAt log place at content
  pub made : IsMade (plan_at at log) name content bytes
