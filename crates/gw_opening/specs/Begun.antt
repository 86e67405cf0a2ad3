-- A log that is open, and the state of all that stands in it.
use Rattle.std.specs.Prelude.{◌<◌, ⊤, ℕ, List, IfSome}
use Rattle.gw_due.specs.Due.{Name}
use Rattle.gw_due.specs.State.{State}
use Rattle.gw_journal.specs.Stored.{Held, StoredState}
use Rattle.gw_ledger.specs.Ledgers.{IsInState, Spares, Tells}
use Rattle.gw_log.specs.Disk.{Files}
use Rattle.gw_log.specs.declared.fault.LogFault.TheVariants.{Damaged, Missing}
use Rattle.gw_opening.specs.declared.fault.OpenFault.{OpenFault}
use Rattle.gw_opening.specs.declared.fault.OpenFault.TheVariants.{Log, Start, Numbers}
use Rattle.gw_due.specs.declared.fault.StartFault.TheVariants.{Checkpoint, Record}

-- the log, the state that was read of it, and the records that the state is of
pub record BegunState (D : Type 0) : Type 0 where
  pub stored : StoredState D
  pub state : State
  pub before : List (List ℕ)

-- The log has all these records, on the disk, whatever crash comes, if the disk did what its calls answered.
-- This is their state
pub record IsBegun {D : Type 0} (Routes : (names : List Name) (plan to bytes : List ℕ) → Type 0) (honest : D → Type 0) (seen : D → Files)
    (may_leave : D → Files → Type 0) (b : BegunState D) : Type 0 where
  pub held : Held Tells Spares honest seen may_leave b.stored b.before
  pub state : IsInState Routes ⊤ b.before b.state
  pub numbers : IfSome b.state.last (λ n. n < b.state.margin)

-- The fault says nothing against the folder
abbrev pub IsSound : OpenFault → Type 0
IsSound (Log (Damaged segment at)) = ⊥
IsSound (Log Missing) = ⊥
IsSound (Log fault) = ⊤
IsSound (Start Checkpoint) = ⊥
IsSound (Start (Record at)) = ⊥
IsSound (Start fault) = ⊤
IsSound Numbers = ⊥
