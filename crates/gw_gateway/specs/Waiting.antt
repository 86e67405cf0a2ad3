-- What the answers of a sender wait for.
use Rattle.std.specs.Prelude.{◌≡◌, ℕ, ◌+◌, ◌<◌, ◌≤◌, Bool, false, List, [], Option, None, Some, IfSome}
use mathlib.Core.List.{IsPrefix}
use Rattle.gw_journal.specs.declared.event.Event as happened
use Rattle.gw_journal.specs.Logs.{IsAt, TicketState, log_in}

-- what was seen of the journal; the answers wait for the records below this place
pub record WaitState : Type 0 where
  pub history : List happened.Event
  pub upto : ℕ

-- nothing is forgotten
pub record GoesOn (s t : WaitState) : Type 0 where
  pub history : IsPrefix s.history t.history
  pub upto : s.upto ≤ t.upto

-- the record stands in the journal, and answers wait for it
pub record IsAwaited (before : List (List ℕ)) (s : WaitState) (place : ℕ) (bytes : List ℕ) : Type 0 where
  pub there : IsAt place bytes (log_in before s.history)
  pub below : place < s.upto

-- all records that answers wait for are on the disk
abbrev pub AllStored : List (List ℕ) → WaitState → Type 0
AllStored before s = s.upto ≤ (log_in before s.history).synced

-- ---- by its parts

-- what was seen: nothing, before anything was
abbrev pub seen_in : Option (List happened.Event) → List happened.Event
seen_in None = []
seen_in (Some history) = history

-- answers wait for this record, and for those before it
abbrev pub upto_of : Option TicketState → ℕ
upto_of None = 0
upto_of (Some ticket) = ticket.place + 1

abbrev pub waiting : Option (List happened.Event) → Option TicketState → WaitState
waiting front last = record { history = seen_in front; upto = upto_of last }

-- a record stands at the ticket's place
pub record IsPut (before : List (List ℕ)) (ticket : TicketState) : Type 0 where
  pub bytes : List ℕ
  pub there : IsAt ticket.place bytes (log_in before ticket.history)

-- Nothing is waited for once all is on the disk
pub record IsWaiting (before : List (List ℕ)) (front : Option (List happened.Event)) (last : Option TicketState) (waits : Bool) : Type 0 where
  pub put : IfSome last (IsPut before)
  pub done : waits ≡ false → AllStored before (waiting front last)
