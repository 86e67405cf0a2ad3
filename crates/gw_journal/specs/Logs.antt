-- What is known of a journal, by its history.
use Rattle.std.specs.Prelude.{⊤, ℕ, ◌+◌, ◌<◌, ◌≤◌, ◌≡◌, ◌≢◌, ◌^◌, max, ◌⊎◌, List, [], ◌∷◌, ◌++◌, length, take, drop, map, slice_get, Option, Some, None, IfSome, IsSome, IsNone, Vec}
use Rattle.std.specs.List.{AllByRecursion}
use Rattle.std.specs.declared.alloc.Global.{Global}
use mathlib.Core.List.{IsPrefix}
use Rattle.gw_journal.specs.declared.event.Event.{Event}
use Rattle.gw_journal.specs.declared.event.Event.TheVariants.{Put, Synced, Read}
use Rattle.gw_journal.specs.declared.fault.JournalFault.{JournalFault}

-- the bytes of records in memory
abbrev pub records_of : List (Vec ℕ Global) → List (List ℕ)
records_of = map (λ v. v.items)

-- all records in order, and how many of them are on the disk
pub record Log : Type 0 where
  pub records : List (List ℕ)
  pub synced : ℕ

-- a journal as it is opened
abbrev pub opened : List (List ℕ) → Log
opened records = record { records = records; synced = length records }

-- a journal after one event more
abbrev pub next : Log → Event → Log
next log (Put bytes) = record log { records = log.records ++ bytes ∷ [] }
next log (Synced count) = record log { synced = max log.synced count }
next log (Read place bytes) = log

abbrev pub after : Log → List Event → Log
after log [] = log
after log (event ∷ events) = after (next log event) events

-- the journal, by the records that it had when it was opened
abbrev pub log_in : List (List ℕ) → List Event → Log
log_in before history = after (opened before) history

-- the journal came later: nothing was forgotten
pub record IsLater (old new : Log) : Type 0 where
  pub more : List (List ℕ)
  pub records : new.records ≡ old.records ++ more
  pub synced : old.synced ≤ new.synced

-- the record is the one at this place of them
abbrev pub IsIn : ℕ → List ℕ → List (List ℕ) → Type 0
IsIn place bytes records = slice_get records place ≡ Some bytes

-- a record stands at this place of the journal
abbrev pub IsAt : ℕ → List ℕ → Log → Type 0
IsAt place bytes log = IsIn place bytes log.records

-- A receipt: a record stands at this place of the journal, and is on the disk
pub record IsStored (place : ℕ) (bytes : List ℕ) (log : Log) : Type 0 where
  pub there : IsAt place bytes log
  pub synced : place < log.synced

-- each record that was read from the files is the one that stood at its place then, from this journal on
abbrev pub AreFaithfulFrom : Log → List Event → Type 0
AreFaithfulFrom log [] = ⊤
AreFaithfulFrom log (Put bytes ∷ events) = AreFaithfulFrom (next log (Put bytes)) events
AreFaithfulFrom log (Synced count ∷ events) = AreFaithfulFrom (next log (Synced count)) events
AreFaithfulFrom log (Read place bytes ∷ events) = IsAt place bytes log × AreFaithfulFrom log events

-- The one premise of who reads the files beside the journal: what was read is what was written
abbrev pub AreFaithful : List (List ℕ) → List Event → Type 0
AreFaithful before history = AreFaithfulFrom (opened before) history

-- what was seen of a journal, and a place in it
pub record TicketState : Type 0 where
  pub history : List Event
  pub place : ℕ

-- the record at the ticket's place is on the disk by the receipt
abbrev pub Confirms : List (List ℕ) → TicketState → TicketState → Type 0
Confirms before ticket receipt =
    (bytes : List ℕ) → IsAt ticket.place bytes (log_in before ticket.history) → IsStored ticket.place bytes (log_in before receipt.history)

-- a record that a journal takes has a byte, and no more than 2,147,483,648
pub record Fits (bytes : List ℕ) : Type 0 where
  pub some : bytes ≢ []
  pub short : length bytes ≤ 2 ^ 31

-- each is one that a journal takes
abbrev pub AreFit : List (List ℕ) → Type 0
AreFit records = AllByRecursion Fits records

-- ---- the storage

-- Of the records of a journal the storage has the first, this many
abbrev pub Keeps : {S : Type 0} → (S → List (List ℕ) → Type 0) → S → (given : ℕ) → Log → Type 0
Keeps stands s given log = stands s (take given log.records)

-- it stands at this place of the storage, whatever crash comes
pub record StandsAt {S : Type 0} (stands : S → List (List ℕ) → Type 0) (s : S) (place : ℕ) (bytes : List ℕ) : Type 0 where
  pub these : List (List ℕ)
  pub stand : stands s these
  pub there : IsIn place bytes these

-- each stands at its place of the storage
abbrev pub AllStand : {S : Type 0} → (S → List (List ℕ) → Type 0) → Log → S → Type 0
AllStand stands log s = (place : ℕ) (bytes : List ℕ) → IsStored place bytes log → StandsAt stands s place bytes

-- ---- through a crash

-- these records are among those lists of records
abbrev pub IsOneOf : List (List ℕ) → List (List (List ℕ)) → Type 0
IsOneOf these [] = ⊥
IsOneOf these (those ∷ others) = (these ≡ those) ⊎ IsOneOf these others

-- each of the one is among the others
abbrev pub AreAmong : List (List (List ℕ)) → List (List (List ℕ)) → Type 0
AreAmong some others = AllByRecursion (λ these. IsOneOf these others) some

-- Of the records of a journal the storage has the first, this many, and is given the others: a crash leaves the ones or all
abbrev pub outcomes : (given : ℕ) → List (List ℕ) → List (List (List ℕ))
outcomes given records = take given records ∷ records ∷ []

-- each record that is on the disk by this journal stands at its place in each of these
abbrev pub NoneIsLost : Log → List (List (List ℕ)) → Type 0
NoneIsLost log left = (place : ℕ) (bytes : List ℕ) → IsStored place bytes log → AllByRecursion (λ records. IsIn place bytes records) left

-- Of the records of a journal a crash leaves these: all that are on the disk, and maybe some of those behind them
pub record IsLeft (log : Log) (left : List (List ℕ)) : Type 0 where
  pub kept : IsPrefix (take log.synced log.records) left
  pub put : IsPrefix left log.records

-- a call answered with a fault, and left the storage so
pub record HasFailed {S : Type 0} (fails : S → S → JournalFault → Type 0) (new : S) (fault : JournalFault) : Type 0 where
  pub old : S
  pub failed : fails old new fault

-- ---- what lies under the lock, and what a thread takes from there

-- the storage, where no thread has it; the records that it wasn't given; how many it was given, and how many of them are on the disk; the history;
-- why nothing more is asked of the journal, if that is so
pub record DeskState (S : Type 0) : Type 0 where
  pub storage : Option S
  pub batch : List (List ℕ)
  pub given : ℕ
  pub settled : ℕ
  pub history : List Event
  pub fault : Option JournalFault

-- there are 2^62 events
abbrev pub IsSpent : {S : Type 0} → DeskState S → Type 0
IsSpent desk = 2 ^ 62 ≤ length desk.history

-- there are 2^62 records or events
abbrev pub IsFull : {S : Type 0} → DeskState S → Type 0
IsFull desk = (2 ^ 62 ≤ desk.given + length desk.batch) ⊎ IsSpent desk

-- the history is longer than it was
abbrev pub HasGrown : {S : Type 0} → DeskState S → DeskState S → Type 0
HasGrown old new = length old.history < length new.history

-- nothing is asked of the storage: there was a fault, or a thread has it, or it has all records
abbrev pub IsIdle : {S : Type 0} → DeskState S → Type 0
IsIdle desk = IsSome desk.fault ⊎ IsNone desk.storage ⊎ (desk.batch ≡ [])

-- the counts and the records are those of the journal
pub record IsTrue {S : Type 0} (stands : S → List (List ℕ) → Type 0) (storage : Option S) (batch : List (List ℕ))
    (given settled : ℕ) (log : Log) : Type 0 where
  pub not_given : batch ≡ drop given log.records
  pub within : given ≤ length log.records
  pub order : settled ≤ given
  pub synced : log.synced ≤ settled
  pub room : length log.records ≤ 2 ^ 62
  pub fit : AreFit batch
  pub keeps : IfSome storage (λ s. Keeps stands s given log)

-- The storage with a batch that it is to be given, and what of the history was seen when both were taken.
-- Where the next file is to be begun, its checkpoint, and the place below which records are needed no more
pub record JobState (S : Type 0) : Type 0 where
  pub storage : S
  pub batch : List (List ℕ)
  pub given : ℕ
  pub history : List Event
  pub next : Option (List ℕ)
  pub keep : ℕ

-- the checkpoint tells of all records of the journal, and by them no record below that place is needed
pub record IsJob {S : Type 0} (stands : S → List (List ℕ) → Type 0) (tells : List (List ℕ) → List ℕ → Type 0)
    (spares : List (List ℕ) → ℕ → Type 0) (job : JobState S) (log : Log) : Type 0 where
  pub all : job.batch ≡ drop job.given log.records
  pub within : job.given ≤ length log.records
  pub synced : log.synced ≤ job.given
  pub room : length log.records ≤ 2 ^ 62
  pub fit : AreFit job.batch
  pub keeps : Keeps stands job.storage job.given log
  pub told : IfSome job.next (tells log.records)
  pub spared : IfSome job.next (λ _. spares log.records job.keep)

-- the bytes of a vector, where there is one
abbrev pub bytes_of : Option (Vec ℕ Global) → Option (List ℕ)
bytes_of None = None
bytes_of (Some v) = Some v.items

-- the storage, how many records it was given, and what of the history was seen
pub record DoneState (S : Type 0) : Type 0 where
  pub storage : S
  pub given : ℕ
  pub history : List Event

-- the storage has all of them
pub record IsDone {S : Type 0} (stands : S → List (List ℕ) → Type 0) (done : DoneState S) (log : Log) : Type 0 where
  pub all : done.given ≡ length log.records
  pub keeps : Keeps stands done.storage done.given log

-- what comes back is what a thread took last
pub record ComesBack {S : Type 0} (desk : DeskState S) (done : DoneState S) : Type 0 where
  pub well : IsNone desk.fault
  pub given : done.given ≡ desk.given
  pub part : IsPrefix done.history desk.history
