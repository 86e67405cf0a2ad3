-- A message is accepted by the plan that was looked up for it.
use Rattle.std.specs.Prelude.{◌≡◌, ℕ, List, ◌++◌, slice_get, Some}
use mathlib.Core.List.{IsPrefix}
use Rattle.gw_due.specs.Events.{Event, Planned}
use Rattle.gw_due.specs.Due.{Name, names}
use Rattle.gw_due.specs.Says.{IsPlanAt}
use Rattle.gw_journal.specs.declared.event.Event as happened
use Rattle.gw_ledger.specs.Ledgers.{LedgerState}
use Rattle.gw_ledger.specs.Finding.{InJournal}

-- what was seen of a journal, and the place of the plan that was in force there
pub record LookState : Type 0 where
  pub place : ℕ
  pub history : List happened.Event

abbrev pub IsLook : List (List ℕ) → LookState → Type 0
IsLook before look = InJournal (IsPlanAt (Some look.place)) before look.history

-- by the plan at this place these are the receivers of the message, whatever comes behind
abbrev pub IsRouted : (Routes : (names : List Name) (plan to bytes : List ℕ) → Type 0) → (place : ℕ) (to bytes : List ℕ) → List Event
    → Type 0
IsRouted Routes place to bytes log =
    (text : List ℕ) (more : List Event) → slice_get log place ≡ Some (Planned text) → Routes (names (log ++ more)) text to bytes

-- the plan that was looked up is in force
pub record IsInForce {S : Type 0} (ledger : LedgerState S) (look : LookState) : Type 0 where
  pub plan : ledger.state.plan ≡ Some look.place
  pub seen : IsPrefix look.history ledger.desk.history
