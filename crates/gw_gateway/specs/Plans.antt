-- The plan in force, and how it is known.
use Rattle.std.specs.Prelude.{◌≡◌, ℕ, List, length, slice_get, Some}
use Rattle.std.specs.List.{AllZip}
use Rattle.gw_due.specs.Due.{Name, names}
use Rattle.gw_due.specs.Events.{Event, Planned}
use Rattle.gw_journal.specs.declared.event.Event as happened
use Rattle.gw_ledger.specs.Accepting.{LookState}
use Rattle.gw_ledger.specs.Finding.{InJournal}
use Rattle.gw_plan.specs.Held.{PlanHeld}
use Rattle.gw_plan.specs.Shapes.{ReceiverValue}
use Rattle.gw_gateway.specs.Routing.{IsNumber, IsRoutedBy}

-- these are the numbers of these receivers, in order
abbrev pub AreNumbers : List Name → List ReceiverValue → List ℕ → Type 0
AreNumbers names = AllZip (IsNumber names)

-- in the journal of this history this is the number of the receiver
abbrev pub IsNamed : List (List ℕ) → ReceiverValue → ℕ → List happened.Event → Type 0
IsNamed before receiver number = InJournal (λ log. IsNumber (names log) receiver number) before

-- in the journal of this history these are the numbers of the receivers
abbrev pub AreNamed : List (List ℕ) → List ReceiverValue → List ℕ → List happened.Event → Type 0
AreNamed before receivers numbers = InJournal (λ log. AreNumbers (names log) receivers numbers) before

-- a plan, its place in the journal, the numbers of its receivers, and what was seen of the journal
pub record PlanState : Type 0 where
  pub place : ℕ
  pub history : List happened.Event
  pub plan : PlanHeld
  pub numbers : List ℕ

-- what was looked up
abbrev pub look_of : PlanState → LookState
look_of p = record { place = p.place; history = p.history }

-- the plan of this text stands at this place, and these are the numbers of its receivers
pub record Stands (place : ℕ) (plan : PlanHeld) (numbers : List ℕ) (log : List Event) : Type 0 where
  pub there : slice_get log place ≡ Some (Planned plan.text)
  pub named : AreNumbers (names log) plan.receivers numbers

pub record IsPlan (before : List (List ℕ)) (p : PlanState) : Type 0 where
  pub stands : InJournal (Stands p.place p.plan p.numbers) before p.history
  pub each : length p.numbers ≡ length p.plan.receivers

-- by the plan these are the receivers of the message, whatever names were given beside those of its receivers
abbrev pub GoesBy : PlanState → (to bytes : List ℕ) → Type 0
GoesBy p to bytes = (names : List Name) → AreNumbers names p.plan.receivers p.numbers → IsRoutedBy names p.plan.text to bytes
