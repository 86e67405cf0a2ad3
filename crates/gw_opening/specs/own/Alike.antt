-- Which records a state is of, by the entries that a folder is said to have.
use lib.Pointwise.{pointwise}
use mathlib.Core.Logic.{inr}
use mathlib.Core.Path.{refl}
use Rattle.std.specs.Prelude.{◌≡◌, ◌⊎◌, ◌<◌, ⊤, IfSome, length, ℕ, Bool, true, false, nat_eq, ◌&&◌, if◌then◌else◌, List, [], map, replicate, Option, Some, None}
use Rattle.std.specs.List.{AllByRecursion}
use Rattle.std.specs.Str.{bytes_eq}
use Rattle.gw_due.specs.Checkpoint.{checkpoint, StateFits}
use Rattle.gw_due.specs.Due.{Name}
use Rattle.gw_due.specs.Spelling.{Entry, Fits, spelled}
use Rattle.gw_due.specs.Starting.{Starts, StopsAt}
use Rattle.gw_due.specs.State.{Receiver, State, nothing, state_of}
use Rattle.gw_journal.specs.Stored.{IsKept, LastState}
use Rattle.gw_ledger.specs.Ledgers.{Spares, Tells, events_of}
use Rattle.gw_log.specs.Disk.{Files}
use Rattle.gw_due.specs.declared.fault.StartFault.TheVariants.{Checkpoint, Record}
use Rattle.gw_opening.specs.Folders.{IsFolder}
use Rattle.gw_opening.specs.declared.fault.OpenFault.{OpenFault}
use Rattle.gw_opening.specs.declared.fault.OpenFault.TheVariants.{Log, Start, Numbers}

abbrev pub one_receiver : Receiver → Receiver → Bool
one_receiver r q = nat_eq r.number q.number && (bytes_eq r.name q.name && (bytes_eq r.address q.address
    && (nat_eq r.from q.from && (nat_eq r.left q.left && nat_eq r.refused q.refused))))

abbrev pub one_option : Option ℕ → Option ℕ → Bool
one_option None None = true
one_option (Some m) (Some n) = nat_eq m n
one_option _ _ = false

-- whether both are the same state
abbrev pub one_state : State → State → Bool
one_state s t = nat_eq s.next t.next && (one_option s.plan t.plan && (one_option s.last t.last && (nat_eq s.margin t.margin
    && (nat_eq s.oldest t.oldest && pointwise one_receiver s.receivers t.receivers))))

-- The records of these entries, where the state is theirs. Else that count of records that spell nothing
abbrev pub before_of : List Entry → State → List (List ℕ)
before_of entries s = if one_state s (state_of (events_of entries)) then map spelled entries else replicate s.next []

-- a start makes this state of the last file; or, where that is a state of no record, the state of none
pub record IsStateBy (last : LastState) (s : State) : Type 0 where
  pub first : State
  pub starts : Starts last.checkpoint last.records first
  pub is : (s ≡ first) ⊎ ((first.next ≡ 0) × (s ≡ nothing))

-- why the last file gives no state
abbrev pub IsCause : LastState → OpenFault → Type 0
IsCause last (Start Checkpoint) = (s : State) → StateFits s → last.checkpoint ≡ checkpoint s → ⊥
IsCause last (Start (Record at)) = StopsAt last.checkpoint last.records at × (at < length last.records)
IsCause last Numbers = (s : State) × (Starts last.checkpoint last.records s × (IfSome s.last (λ n. n < s.margin) → ⊥))
IsCause last (Log fault) = ⊥
IsCause last (Start fault) = ⊤

-- of whatever entries the files are a log of this number, this is the state
abbrev pub IsStateIn : ℕ → Files → State → Type 0
IsStateIn id files s = (entries : List Entry) → IsKept Tells Spares id files (map spelled entries) → AllByRecursion Fits entries → s ≡ state_of (events_of entries)

-- a folder without a file
pub no_file : (Routes : (names : List Name) (plan to bytes : List ℕ) → Type 0) → IsFolder Routes 0 (λ number. []) []
no_file Routes = inr ((λ number. refl), refl)
