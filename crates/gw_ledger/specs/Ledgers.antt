-- A journal whose records spell the events of a gateway's log, and the state of these events.
use Rattle.std.specs.Prelude.{◌≡◌, ◌≤◌, ℕ, nat_eq, min, if◌then◌else◌, List, [], ◌∷◌, length, map, Option}
use Rattle.std.specs.List.{AllByRecursion}
use Rattle.gw_due.specs.Events.{Event, Margin}
use Rattle.gw_due.specs.Due.{Name}
use Rattle.gw_due.specs.Lawful.{Lawful}
use Rattle.gw_due.specs.Says.{IsSeen}
use Rattle.gw_due.specs.State.{Receiver, State, state_of}
use Rattle.gw_due.specs.Spelling.{Entry, Fits, spelled}
use Rattle.gw_due.specs.Checkpoint.{checkpoint, StateFits}
use Rattle.gw_journal.specs.Logs.{DeskState, IsAt, TicketState, log_in}

-- these records spell these entries, each in its one spelling
pub record Spells (records : List (List ℕ)) (entries : List Entry) : Type 0 where
  pub are : records ≡ map spelled entries
  pub fit : AllByRecursion Fits entries

abbrev pub events_of : List Entry → List Event
events_of entries = map (λ e. e.event) entries

-- these records spell a lawful log
pub record IsLawful (Routes : (names : List Name) (plan to bytes : List ℕ) → Type 0) (records : List (List ℕ)) : Type 0 where
  pub entries : List Entry
  pub spells : Spells records entries
  pub lawful : Lawful Routes (events_of entries)

-- This is the state of the events of these records, if they spell any. These are lawful, if what was read of the log beside its journal is what was written.
-- Of a log that was found on a disk no more is known: its records count, and they spell what they spell
pub record IsInState (Routes : (names : List Name) (plan to bytes : List ℕ) → Type 0) (faithful : Type 0)
    (records : List (List ℕ)) (s : State) : Type 0 where
  pub counted : s.next ≡ length records
  pub is : (entries : List Entry) → Spells records entries → s ≡ state_of (events_of entries)
  pub lawful : faithful → (entries : List Entry) → Spells records entries → Lawful Routes (events_of entries)

-- these records show what no state can say of the event, if what was read is what was written
abbrev pub IsSeenIn : (Routes : (names : List Name) (plan to bytes : List ℕ) → Type 0) → Type 0 → List (List ℕ) → Event → Type 0
IsSeenIn Routes faithful records e = (entries : List Entry) → Spells records entries → faithful → IsSeen Routes (events_of entries) e

-- the bytes are the one spelling of this state
pub record IsCheckpoint (s : State) (bytes : List ℕ) : Type 0 where
  pub spells : bytes ≡ checkpoint s
  pub fits : StateFits s

-- the checkpoint is that of the events of these records
abbrev pub Tells : List (List ℕ) → List ℕ → Type 0
Tells records bytes = (entries : List Entry) → Spells records entries → IsCheckpoint (state_of (events_of entries)) bytes

-- From where on something is left for one of these receivers: from its own place on, or from that of another that stands before it.
-- Where nothing is left, it is the place that is given
abbrev pub needed_by : ℕ → List Receiver → ℕ
needed_by place [] = place
needed_by place (r ∷ rs) = needed_by (if nat_eq r.left 0 then place else min place r.from) rs

-- by a state: behind all that was put where nothing is left
abbrev pub needed_from : State → ℕ
needed_from s = needed_by s.next s.receivers

-- by the state of these records, nothing that stands below this place is left for a receiver
abbrev pub Spares : List (List ℕ) → ℕ → Type 0
Spares records place = (entries : List Entry) → Spells records entries → place ≤ needed_from (state_of (events_of entries))

-- the ticket's record puts this margin
pub record IsMargin (before : List (List ℕ)) (margin : ℕ) (t : TicketState) : Type 0 where
  pub time : ℕ
  pub there : IsAt t.place (spelled (record { time = time; event = Margin margin })) (log_in before t.history)

-- what lies under the lock: the journal's desk; the state of all that was put; the next file is begun where the last one has more
-- bytes than this; records that stand below a place are needed for nothing else than what is left; the number of the next answer;
-- the ticket of the margin that was put last, since the log was opened; the last file's number, and how many of its bytes count
pub record LedgerState (S : Type 0) : Type 0 where
  pub desk : DeskState S
  pub state : State
  pub limit : ℕ
  pub keep : ℕ
  pub number : ℕ
  pub margin_at : Option TicketState
  pub tail : ℕ × ℕ
