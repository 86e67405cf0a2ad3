-- What waits for a receiver, and what comes of it.
use Rattle.std.specs.Prelude.{◌≡◌, ◌⊎◌, ⊤, ℕ, Bool, true, false, List, [], ◌∷◌, Option, None, Some, IsNone, take}
use Rattle.gw_ack.specs.declared.receipt.Ack.{Ack}
use Rattle.gw_ack.specs.declared.receipt.Ack.TheVariants.{AA, AE, AR}
use Rattle.gw_due.specs.Events.{How, Taken, Refused, Skipped, Passed}
use Rattle.gw_due.specs.Spelling.{spelled}
use Rattle.gw_journal.specs.declared.event.Event as happened
use Rattle.gw_journal.specs.Logs.{IsStored, log_in}
use Rattle.gw_ledger.specs.Backlogs.{BacklogState, GoesOn, IsFirstLeft, OnDisk, WasFirst}
use Rattle.gw_ledger.specs.Finding.{InJournal, IsNext}
use Rattle.gw_ledger.specs.Putting.{timed}
use Rattle.gw_delivery.specs.Made.{IsMadeAt}

-- what is next for a receiver: the place at which it is due, looked for from a place on; what it is sent of it; what was seen of the journal
pub record NextState : Type 0 where
  pub receiver : ℕ
  pub name : List ℕ
  pub from : ℕ
  pub place : ℕ
  pub bytes : List ℕ
  pub history : List happened.Event

-- it is the first that is due from there on, and the bytes are what the plan of its place makes of it
pub record IsNextFor (before : List (List ℕ)) (n : NextState) : Type 0 where
  pub found : InJournal (IsNext n.receiver n.from n.place) before n.history
  pub made : InJournal (IsMadeAt n.name n.place n.bytes) before n.history

-- what waits for a receiver: what is left for it, once that was looked up, and what is next, once it was found
pub record WaitingState : Type 0 where
  pub receiver : ℕ
  pub name : List ℕ
  pub backlog : Option BacklogState
  pub next : Option NextState

-- what is left was seen again, and nothing was passed meanwhile; or it was looked up for the first time
abbrev pub Follows : List (List ℕ) → Option BacklogState → Option BacklogState → Type 0
Follows before None new = ⊤
Follows before (Some was) None = ⊥
Follows before (Some was) (Some now) = GoesOn before was now []

-- it is of the same receiver, and nothing was passed
pub record Stays (before : List (List ℕ)) (old new : WaitingState) : Type 0 where
  pub receiver : new.receiver ≡ old.receiver
  pub name : new.name ≡ old.name
  pub backlog : Follows before old.backlog new.backlog

-- all is as it was, but for what is next
pub record Keeps (old new : WaitingState) : Type 0 where
  pub receiver : new.receiver ≡ old.receiver
  pub name : new.name ≡ old.name
  pub backlog : new.backlog ≡ old.backlog

-- nothing more is given; or the log can't be read on from there, and what is left is to be looked up anew
pub record Closes (before : List (List ℕ)) (old new : WaitingState) : Type 0 where
  pub receiver : new.receiver ≡ old.receiver
  pub name : new.name ≡ old.name
  pub backlog : IsNone new.backlog ⊎ Follows before old.backlog new.backlog

-- These bytes are what the plan of a place makes of what is due to the receiver there. It is the first that is left for it, by what was seen of the journal.
-- It is so by what was on the disk then, too: whatever crash comes, it stays due there, and all before it stays passed
pub record IsHanded (before : List (List ℕ)) (receiver : ℕ) (name : List ℕ) (place : ℕ) (bytes : List ℕ) (b : BacklogState) : Type 0 where
  pub of : b.receiver ≡ receiver
  pub first : InJournal (IsFirstLeft receiver place) before b.history
  pub kept : OnDisk (IsFirstLeft receiver place) before b.history
  pub made : InJournal (IsMadeAt name place bytes) before b.history

-- these bytes are what is next for the receiver
pub record IsGiven (before : List (List ℕ)) (w : WaitingState) (bytes : List ℕ) : Type 0 where
  pub backlog : BacklogState
  pub left : w.backlog ≡ Some backlog
  pub next : NextState
  pub is : w.next ≡ Some next
  pub handed : IsHanded before w.receiver w.name next.place bytes backlog

-- they were given
pub record Gives (before : List (List ℕ)) (old new : WaitingState) (bytes : List ℕ) : Type 0 where
  pub stays : Stays before old new
  pub given : IsGiven before new bytes

-- how a receiver passes what it acknowledged so, for this reason
abbrev pub how : Ack → List ℕ → How
how AA reason = Taken
how AE reason = Refused 1 reason
how AR reason = Refused 2 reason

-- the reason by an acknowledgment's content: its first 4,096 bytes
abbrev pub reason_of : List ℕ → List ℕ
reason_of content = take 4096 content

-- a record that the receiver passed this stands in the journal, and is on the disk
pub record IsPassed (before : List (List ℕ)) (receiver place : ℕ) (passed : How) (history : List happened.Event) : Type 0 where
  pub at : ℕ
  pub time : ℕ
  pub stored : IsStored at (spelled (timed time (Passed receiver place passed))) (log_in before history)

-- The receiver passed just what is due to it at this place, and a record of that is on the disk. It was the first that is left, by what was on the disk
pub record Passes (before : List (List ℕ)) (old new : WaitingState) (place : ℕ) (passed : How) : Type 0 where
  pub receiver : new.receiver ≡ old.receiver
  pub name : new.name ≡ old.name
  pub was : BacklogState
  pub left : old.backlog ≡ Some was
  pub now : BacklogState
  pub left_now : new.backlog ≡ Some now
  pub on : GoesOn before was now (place ∷ [])
  pub first : WasFirst before was.receiver place now.history
  pub history : List happened.Event
  pub stored : IsPassed before was.receiver place passed history

-- the receiver passed what was next
pub record PassesNext (before : List (List ℕ)) (old new : WaitingState) (passed : How) : Type 0 where
  pub next : NextState
  pub was_next : old.next ≡ Some next
  pub passes : Passes before old new next.place passed

-- the receiver passed what was next as it acknowledged it, with the beginning of this acknowledgment as the reason
pub record PassesAs (before : List (List ℕ)) (old new : WaitingState) (ack : Ack) : Type 0 where
  pub answer : List ℕ
  pub passes : PassesNext before old new (how ack (reason_of answer))

-- what was next is settled: the receiver passed it; or it is to be sent again, and nothing changed
abbrev pub Settles : List (List ℕ) → WaitingState → WaitingState → Ack → Bool → Type 0
Settles before old new ack true = PassesAs before old new ack
Settles before old new ack false = new ≡ old

-- how a receiver passes what a person had passed over: as skipped; or as refused where it is parked, so that it lies with what the receiver refused
abbrev pub over : (is_parked : Bool) → How
over false = Skipped
over true = Refused 3 []

-- the first that is left was passed over so, and isn't sent any more
pub record PassesOver (before : List (List ℕ)) (old new : WaitingState) (passed : How) : Type 0 where
  pub place : ℕ
  pub passes : Passes before old new place passed

-- The first that is left was passed as refused, and was not sent: it can't be made, or no block can have it
pub record PutsAside (before : List (List ℕ)) (old new : WaitingState) : Type 0 where
  pub place : ℕ
  pub passes : Passes before old new place (how AR [])
