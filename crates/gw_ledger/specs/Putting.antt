-- What a ledger answers to who puts an entry, and what it is then.
use Rattle.std.specs.Prelude.{◌≡◌, ℕ, ◌+◌, ◌<◌, ◌^◌, ◌⊎◌, max, IsTrue, IsFalse, List, [], ◌∷◌, ◌++◌, length, Option, Some, IsNone, IfSome, Result, Err, IfOk, IfErr}
use Rattle.gw_due.specs.Events.{Event, Accepted, Margin}
use Rattle.gw_due.specs.State.{after, allows, has_room}
use Rattle.gw_due.specs.Spelling.{Entry, Fits, spelled}
use Rattle.gw_journal.specs.declared.event.Event.TheVariants.{Put, Synced}
use Rattle.gw_journal.specs.declared.fault.JournalFault.TheVariants.{Memory, Disk, Full, Empty, TooLong}
use Rattle.gw_journal.specs.Logs.{DeskState, DoneState, HasGrown, IsAt, IsFull, TicketState, log_in}
use Rattle.gw_ledger.specs.Ledgers.{LedgerState}
use Rattle.gw_ledger.specs.declared.fault.LedgerFault.{LedgerFault}
use Rattle.gw_ledger.specs.declared.fault.LedgerFault.TheVariants.{Journal, Unlawful, Stale}

-- an event, at a time
abbrev pub timed : ℕ → Event → Entry
timed time e = record { time = time; event = e }

-- the number of the next answer is above that of a message
abbrev pub number_by : ℕ → Event → ℕ
number_by n (Accepted number to bytes) = max n (number + 1)
number_by n _ = n

-- the ticket of the last margin
abbrev pub margin_at : Option TicketState → TicketState → Event → Option TicketState
margin_at last t (Margin number) = Some t
margin_at last t _ = last

-- the ledger with this entry behind the others
abbrev pub with_entry : {S : Type 0} → Entry → LedgerState S → LedgerState S
with_entry e old = record old {
  desk = record old.desk { batch = old.desk.batch ++ spelled e ∷ []; history = old.desk.history ++ Put (spelled e) ∷ [] };
  state = after old.state e.event;
  number = number_by old.number e.event;
  margin_at = margin_at old.margin_at (record { history = old.desk.history ++ Put (spelled e) ∷ []; place = old.state.next }) e.event;
}

-- the ticket's record spells the entry, at the place of the next one, and its event was allowed
pub record IsPut {S : Type 0} (before : List (List ℕ)) (old new : LedgerState S) (e : Entry) (t : TicketState) : Type 0 where
  pub place : t.place ≡ old.state.next
  pub there : IsAt t.place (spelled e) (log_in before t.history)
  pub seen : t.history ≡ new.desk.history
  pub is : new ≡ with_entry e old
  pub allowed : IsTrue (allows old.state e.event)
  pub fits : Fits e

-- the desk with the storage that came back
abbrev pub with_storage : {S : Type 0} → DeskState S → DoneState S → DeskState S
with_storage desk done = record desk { storage = Some done.storage; settled = done.given; history = desk.history ++ Synced done.given ∷ [] }

-- a part of the entry has no length in four bytes, or its record has more than 2,147,483,648 bytes
abbrev pub IsTooLong : Entry → Type 0
IsTooLong e = Fits e → 2 ^ 31 < length (spelled e)

-- of a ledger without a fault: why the entry was not put
abbrev pub IsCause : {S : Type 0} → (old new : LedgerState S) → Entry → LedgerFault → Type 0
IsCause old new e Unlawful = (IsFalse (allows old.state e.event)) × (new ≡ old)
IsCause old new e Stale = ⊥
IsCause old new e (Journal Memory) = new ≡ old
IsCause old new e (Journal TooLong) = IsTooLong e × (new ≡ old)
IsCause old new e (Journal Full) = IsFalse (has_room old.state) ⊎ IsFull old.desk ⊎ HasGrown old.desk new.desk
IsCause old new e (Journal Disk) = ⊥
IsCause old new e (Journal Empty) = ⊥

-- What is answered to who puts an entry
pub record Puts {S : Type 0} (before : List (List ℕ)) (old new : LedgerState S) (e : Entry) (answer : Result TicketState LedgerFault) : Type 0 where
  pub ok : IfOk answer (IsPut before old new e)
  -- once there was a fault, it is the answer, and nothing changes
  pub faulty : IfSome old.desk.fault (λ fault. (answer ≡ Err (Journal fault)) × (new ≡ old))
  pub unlawful : IsNone old.desk.fault → IsFalse (allows old.state e.event) → answer ≡ Err Unlawful
  pub cause : IsNone old.desk.fault → IfErr answer (IsCause old new e)
  -- an error leaves all as it was, unless another than this ledger added to the history
  pub err : IfErr answer (λ fault. (new ≡ old) ⊎ HasGrown old.desk new.desk)
