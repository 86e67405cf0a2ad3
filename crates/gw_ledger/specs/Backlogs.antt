-- What is left for a receiver, as it was seen of a journal, and what the receiver passed between two moments.
use Rattle.std.specs.Prelude.{◌≡◌, ◌≤◌, ◌++◌, ℕ, true, nat_eq, nat_le, ◌&&◌, Bool, if◌then◌else◌, List, [], ◌∷◌, take, drop, length, slice_get, Some}
use Rattle.std.specs.List.{AllByRecursion}
use mathlib.Core.List.{IsPrefix}
use Rattle.gw_due.specs.Events.{Event}
use Rattle.gw_due.specs.Due.{due, due_from, left, passed}
use Rattle.gw_due.specs.State.{Receiver}
use Rattle.gw_due.specs.Spelling.{Entry}
use Rattle.gw_journal.specs.declared.event.Event as happened
use Rattle.gw_journal.specs.Logs.{AreFaithful, log_in}
use Rattle.gw_ledger.specs.Ledgers.{Spells, events_of}
use Rattle.gw_ledger.specs.Finding.{InJournal, ScanState}

-- What is left for the receiver is what is due to it from a place on. It passed all else that is due to it, in order
pub record IsLeftFrom (receiver from : ℕ) (log : List Event) : Type 0 where
  pub within : from ≤ length log
  pub behind : left receiver log ≡ due_from receiver from (drop from log)
  pub order : passed receiver log ++ left receiver log ≡ due receiver log

-- of what is left for the receiver the first stands at this place
abbrev pub IsFirstLeft : (receiver place : ℕ) → List Event → Type 0
IsFirstLeft receiver place log = slice_get (left receiver log) 0 ≡ Some place

-- from one log to a later one the receiver passed just what was due to it at these places
abbrev pub HasPassed : (receiver : ℕ) (places : List ℕ) (old new : List Event) → Type 0
HasPassed receiver places old new = passed receiver new ≡ passed receiver old ++ places

-- all that the receiver passed, it passed by the first records, this many
abbrev pub HasPassedWithin : (receiver count : ℕ) → List Event → Type 0
HasPassedWithin receiver count log = passed receiver (take count log) ≡ passed receiver log

-- of what is on the disk of the journal of this history: whatever its records spell, if what was read is what was written
abbrev pub OnDisk : (List Event → Type 0) → List (List ℕ) → List happened.Event → Type 0
OnDisk P before history = InJournal (λ log. P (take (log_in before history).synced log)) before history

-- at this moment or before, the place was the first that is left for the receiver, by what was on the disk
pub record WasFirst (before : List (List ℕ)) (receiver place : ℕ) (now : List happened.Event) : Type 0 where
  pub at : List happened.Event
  pub until : IsPrefix at now
  pub first : OnDisk (IsFirstLeft receiver place) before at

-- what was seen of a journal, and the place from which on what is due to the receiver is left for it
pub record BacklogState : Type 0 where
  pub receiver : ℕ
  pub from : ℕ
  pub history : List happened.Event

abbrev pub IsBacklog : List (List ℕ) → BacklogState → Type 0
IsBacklog before b = InJournal (IsLeftFrom b.receiver b.from) before b.history

-- a scan that begins with it
abbrev pub scan_of : BacklogState → ScanState
scan_of b = record { receiver = b.receiver; from = b.from; at = b.from; history = b.history }

-- of two moments of one journal: whatever the records of both spell, if what was read is what was written
abbrev pub Between : (List Event → List Event → Type 0) → List (List ℕ) → (old new : List happened.Event) → Type 0
Between P before old new = AreFaithful before new → (these those : List Entry) → Spells (log_in before old).records these
    → Spells (log_in before new).records those → P (events_of these) (events_of those)

-- it was seen again, and meanwhile the receiver passed just what was due to it at these places
pub record GoesOn (before : List (List ℕ)) (old new : BacklogState) (places : List ℕ) : Type 0 where
  pub receiver : new.receiver ≡ old.receiver
  pub later : IsPrefix old.history new.history
  pub passed : Between (HasPassed old.receiver places) before old.history new.history

-- It was seen again, nothing was passed meanwhile, and what stands at this place is the first that is left. It is so by what is on the disk, too
pub record BeginsWith (before : List (List ℕ)) (old new : BacklogState) (place : ℕ) : Type 0 where
  pub on : GoesOn before old new []
  pub first : InJournal (IsFirstLeft old.receiver place) before new.history
  pub kept : OnDisk (IsFirstLeft old.receiver place) before new.history

-- From where on what is due to the receiver of this number is left, by a state of so many records: behind all of them where nothing is left
abbrev pub left_from : (n next : ℕ) → List Receiver → ℕ
left_from n next [] = next
left_from n next (r ∷ rs) = if nat_eq r.number n then (if nat_eq r.left 0 then next else r.from) else left_from n next rs

-- by a state nothing is left for the receiver of this number, and what it passed stands before a place
abbrev pub is_at_rest : (n place : ℕ) → List Receiver → Bool
is_at_rest n place [] = true
is_at_rest n place (r ∷ rs) = if nat_eq r.number n then (nat_eq r.left 0 && nat_le r.from place) else is_at_rest n place rs

-- none of these stands below this place
abbrev pub AreFrom : ℕ → List ℕ → Type 0
AreFrom place places = AllByRecursion (λ other. place ≤ other) places
