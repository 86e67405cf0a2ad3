-- What a forwarder finds in the files of the log, and how it is known to be the next for its receiver.
use Rattle.std.specs.Prelude.{◌≡◌, ◌⊎◌, ◌≤◌, ◌++◌, ℕ, Bool, true, false, nat_eq, if◌then◌else◌, List, [], ◌∷◌, take, drop, length, slice_get, Option, Some, None}
use mathlib.Core.List.{IsPrefix}
use Rattle.gw_due.specs.Events.{How, Event, Accepted, Again, Passed}
use Rattle.gw_due.specs.Due.{due_from, is_among}
use Rattle.gw_due.specs.Lawful.{IsAccepted}
use Rattle.gw_due.specs.State.{Receiver}
use Rattle.gw_due.specs.Spelling.{Entry, Fits, spelled}
use Rattle.gw_journal.specs.declared.event.Event as happened
use Rattle.gw_journal.specs.declared.event.Event.TheVariants.{Read}
use Rattle.gw_journal.specs.Logs.{AreFaithful, log_in}
use Rattle.gw_ledger.specs.Ledgers.{LedgerState, Spells, events_of}

-- it holds of the entry that these bytes spell, if they spell one
abbrev pub OfSpelled : List ℕ → (Entry → Type 0) → Type 0
OfSpelled bytes P = (e : Entry) → Fits e → bytes ≡ spelled e → P e

-- these bytes were read from the files, as the record at this place
abbrev pub with_read : {S : Type 0} → ℕ → List ℕ → LedgerState S → LedgerState S
with_read place bytes old = record old { desk = record old.desk { history = old.desk.history ++ Read place bytes ∷ [] } }

-- whether the event makes something due to the receiver
abbrev pub makes_due : ℕ → Event → Bool
makes_due r (Accepted number to bytes) = is_among r to
makes_due r (Again receiver place) = nat_eq receiver r
makes_due r _ = false

-- of what is due to the receiver at the one place or behind it, the first stands at the other
abbrev pub IsNext : (receiver from place : ℕ) → List Event → Type 0
IsNext receiver from place log = slice_get (due_from receiver from (drop from log)) 0 ≡ Some place

-- nothing is due to the receiver from the one place on, up to the other
pub record IsQuiet (receiver from at : ℕ) (log : List Event) : Type 0 where
  pub within : at ≤ length log
  pub none : due_from receiver from (drop from (take at log)) ≡ []

-- in the journal of this history: whatever its records spell, if what was read is what was written
abbrev pub InJournal : (List Event → Type 0) → List (List ℕ) → List happened.Event → Type 0
InJournal P before history = AreFaithful before history → (entries : List Entry) → Spells (log_in before history).records entries → P (events_of entries)

-- what was seen of a journal, and what was looked through for a receiver: from a place on, up to another one
pub record ScanState : Type 0 where
  pub receiver : ℕ
  pub from : ℕ
  pub at : ℕ
  pub history : List happened.Event

-- nothing was due there
pub record IsScan (before : List (List ℕ)) (scan : ScanState) : Type 0 where
  pub order : scan.from ≤ scan.at
  pub quiet : (scan.at ≡ scan.from) ⊎ InJournal (IsQuiet scan.receiver scan.from scan.at) before scan.history

-- what was seen of a journal; the place at which the next for the receiver was found, looked for from a place on
pub record FoundState : Type 0 where
  pub receiver : ℕ
  pub from : ℕ
  pub place : ℕ
  pub history : List happened.Event

abbrev pub IsFound : List (List ℕ) → FoundState → Type 0
IsFound before found = InJournal (IsNext found.receiver found.from found.place) before found.history

-- where what is left for the receiver of this number begins
abbrev pub from_of : ℕ → List Receiver → Option ℕ
from_of n [] = None
from_of n (r ∷ rs) = if nat_eq r.number n then Some r.from else from_of n rs

-- the scan of this journal begins where what is left for the receiver does
abbrev pub IsBegun : {S : Type 0} → LedgerState S → ℕ → ScanState → Type 0
IsBegun ledger receiver s =
    (from_of receiver ledger.state.receivers ≡ Some s.from)
    × (s ≡ record { receiver = receiver; from = s.from; at = s.from; history = ledger.desk.history })

-- the receiver passed what was found for it
abbrev pub was_passed : FoundState → How → Event
was_passed found how = Passed found.receiver found.place how

-- what a scan found where it stands, in this journal
abbrev pub found_at : {S : Type 0} → ScanState → LedgerState S → FoundState
found_at s ledger = record { receiver = s.receiver; from = s.from; place = s.at; history = ledger.desk.history }

-- it was found in this journal, from where what is left for its receiver still begins
pub record IsCurrent {S : Type 0} (ledger : LedgerState S) (found : FoundState) : Type 0 where
  pub from : from_of found.receiver ledger.state.receivers ≡ Some found.from
  pub seen : IsPrefix found.history ledger.desk.history

-- whether the event is the acceptance of a message
abbrev pub is_acceptance : Event → Bool
is_acceptance (Accepted number to bytes) = true
is_acceptance _ = false

-- what was seen of a journal, and the place of a message that was accepted
pub record MessageState : Type 0 where
  pub place : ℕ
  pub history : List happened.Event

abbrev pub IsMessage : List (List ℕ) → MessageState → Type 0
IsMessage before message = InJournal (IsAccepted message.place) before message.history

-- the message was seen in this journal
abbrev pub IsSeenBy : {S : Type 0} → LedgerState S → MessageState → Type 0
IsSeenBy ledger message = IsPrefix message.history ledger.desk.history
