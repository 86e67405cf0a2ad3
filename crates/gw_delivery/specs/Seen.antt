-- What was read of the log, as evidence: it holds if what was read is what was written.
use Rattle.std.specs.Prelude.{◌≡◌, ◌≤◌, ℕ, Bool, true, false, List, length, Some, slice_get}
use Rattle.gw_due.specs.Events.{Event, Planned}
use Rattle.gw_due.specs.Due.{plan_at}
use Rattle.gw_journal.specs.declared.event.Event as happened
use Rattle.gw_journal.specs.Logs.{AreFaithful, IsAt, log_in}
use Rattle.gw_ledger.specs.Finding.{InJournal}

-- the event stands at this place of the log
abbrev pub IsEventAt : ℕ → Event → List Event → Type 0
IsEventAt place e log = slice_get log place ≡ Some e

-- a record that was read, its place, and what was seen of the journal then
pub record SightState : Type 0 where
  pub place : ℕ
  pub bytes : List ℕ
  pub history : List happened.Event

-- it stands there
abbrev pub IsSight : List (List ℕ) → SightState → Type 0
IsSight before s = AreFaithful before s.history → IsAt s.place s.bytes (log_in before s.history)

-- whether the event puts a plan in force
abbrev pub puts_plan : Event → Bool
puts_plan (Planned text) = true
puts_plan _ = false

-- at a place the plan of this text is in force
pub record IsUnder (at : ℕ) (text : List ℕ) (log : List Event) : Type 0 where
  pub within : at ≤ length log
  pub plan : plan_at at log ≡ text

-- a place, the text of the plan in force there, and what was seen of the journal
pub record UnderState : Type 0 where
  pub at : ℕ
  pub text : List ℕ
  pub history : List happened.Event

abbrev pub IsUnderIn : List (List ℕ) → UnderState → Type 0
IsUnderIn before u = InJournal (IsUnder u.at u.text) before u.history
