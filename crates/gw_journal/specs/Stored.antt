-- A log on a disk as the storage of a journal.
use Rattle.std.specs.Prelude.{ℕ, ◌≡◌, ◌<◌, ◌≤◌, ◌-◌, ◌⊎◌, true, List, [], ◌∷◌, ◌++◌, length, take, drop}
use Rattle.gw_log.specs.Chain.{Head, Origin, LogState, Holds, IsLog}
use Rattle.gw_log.specs.Disk.{Files, LeavesOnly}
use Rattle.gw_journal.specs.Logs.{IsIn, IsOneOf}

-- Once there were so many of these records, by which none below this place was needed any more
pub record WereSpared (spares : List (List ℕ) → ℕ → Type 0) (all : List (List ℕ)) (place : ℕ) : Type 0 where
  pub count : ℕ
  pub within : count ≤ length all
  pub spared : spares (take count all) place

-- The first records of all are gone with their files, and these are kept.
-- The checkpoint of the last file's head tells of all records before that file. Below the head's place none was needed
pub record Covers (tells : List (List ℕ) → List ℕ → Type 0) (spares : List (List ℕ) → ℕ → Type 0) (from : Origin) (head : Head)
    (all kept : List (List ℕ)) : Type 0 where
  pub gone : List (List ℕ)
  pub split : all ≡ gone ++ kept
  pub place : from.first ≡ length gone
  pub told : tells (take head.first all) head.checkpoint
  pub spared : WereSpared spares all head.keep

-- The files are a log of this number, and these are all its records since it was created
pub record IsKept (tells : List (List ℕ) → List ℕ → Type 0) (spares : List (List ℕ) → ℕ → Type 0) (id : ℕ) (files : Files)
    (all : List (List ℕ)) : Type 0 where
  pub from : Origin
  pub head : Head
  pub kept : List (List ℕ)
  pub covers : Covers tells spares from head all kept
  pub log : IsLog id files from head kept

-- a log that is open, and its number
pub record StoredState (D : Type 0) : Type 0 where
  pub log : LogState D
  pub id : ℕ

abbrev pub disk_of : {D : Type 0} → StoredState D → D
disk_of s = s.log.segment.disk

-- these are all its records since it was created, whatever crash comes
pub record IsHeld {D : Type 0} (tells : List (List ℕ) → List ℕ → Type 0) (spares : List (List ℕ) → ℕ → Type 0) (seen : D → Files)
    (may_leave : D → Files → Type 0) (s : StoredState D) (these : List (List ℕ)) : Type 0 where
  pub from : Origin
  pub head : Head
  pub kept : List (List ℕ)
  pub covers : Covers tells spares from head these kept
  pub holds : Holds seen may_leave s.log from head kept
  pub id : s.log.id ≡ s.id

-- what the disk answered holds, so the log has these
abbrev pub Held : {D : Type 0} → (List (List ℕ) → List ℕ → Type 0) → (List (List ℕ) → ℕ → Type 0) → (D → Type 0) → (D → Files)
    → (D → Files → Type 0) → StoredState D → List (List ℕ) → Type 0
Held tells spares honest seen may_leave s these = honest (disk_of s) → IsHeld tells spares seen may_leave s these

-- the files are a log of this number with one of these lists of records
pub record KeepsOne (tells : List (List ℕ) → List ℕ → Type 0) (spares : List (List ℕ) → ℕ → Type 0) (id : ℕ) (left : List (List (List ℕ)))
    (files : Files) : Type 0 where
  pub all : List (List ℕ)
  pub among : IsOneOf all left
  pub kept : IsKept tells spares id files all

-- a crash at any moment from the one to the other leaves one of these, if what the disk answered holds
pub record LeavesOne {D : Type 0} (tells : List (List ℕ) → List ℕ → Type 0) (spares : List (List ℕ) → ℕ → Type 0) (honest : D → Type 0)
    (moment : D → ℕ) (left_since : D → ℕ → Files → Type 0) (old new : StoredState D) (left : List (List (List ℕ))) : Type 0 where
  pub id : new.id ≡ old.id
  pub back : honest (disk_of new) → honest (disk_of old)
  pub leaves : honest (disk_of new) → LeavesOnly moment left_since (disk_of old) (disk_of new) (KeepsOne tells spares old.id left)

-- a fault leaves the log as it was, or nothing more is asked of it
abbrev pub Fails : {D : Type 0} → StoredState D → StoredState D → Type 0
Fails old new = (new ≡ old) ⊎ (new.log.segment.broken ≡ true)

-- a crash at any moment since then leaves a log of the same records
abbrev pub LeavesKept : {D : Type 0} → (List (List ℕ) → List ℕ → Type 0) → (List (List ℕ) → ℕ → Type 0) → (D → Files) → (D → ℕ)
    → (D → ℕ → Files → Type 0) → ℕ → D → D → Type 0
LeavesKept tells spares seen moment left_since id old new =
    (all : List (List ℕ)) → IsKept tells spares id (seen old) all → LeavesOnly moment left_since old new (λ c. IsKept tells spares id c all)

-- ---- the last file, as a start reads it

-- the checkpoint of its head, and the records behind the head
pub record LastState : Type 0 where
  pub checkpoint : List ℕ
  pub records : List (List ℕ)

-- a head is five numbers of eight bytes, and its checkpoint
abbrev pub last_of : List (List ℕ) → LastState
last_of [] = record { checkpoint = []; records = [] }
last_of (head ∷ rest) = record { checkpoint = drop 40 head; records = rest }

-- the records of a log are those that the checkpoint tells of, and these behind them
pub record EndsWith (tells : List (List ℕ) → List ℕ → Type 0) (all : List (List ℕ)) (last : LastState) : Type 0 where
  pub before : List (List ℕ)
  pub split : all ≡ before ++ last.records
  pub told : tells before last.checkpoint

-- so it is, of whatever log these files are
abbrev pub TellsLast : (List (List ℕ) → List ℕ → Type 0) → (List (List ℕ) → ℕ → Type 0) → ℕ → Files → LastState → Type 0
TellsLast tells spares id files last = (all : List (List ℕ)) → IsKept tells spares id files all → EndsWith tells all last

-- ---- through crashes

-- the files are a log of this number, and the record is at this place of all its records
pub record HasAt (tells : List (List ℕ) → List ℕ → Type 0) (spares : List (List ℕ) → ℕ → Type 0) (id place : ℕ) (bytes : List ℕ) (files : Files)
    : Type 0 where
  pub all : List (List ℕ)
  pub kept : IsKept tells spares id files all
  pub there : IsIn place bytes all

-- it stands at its place in these files, or its file is gone
pub record IsThere (id place : ℕ) (bytes : List ℕ) (files : Files) : Type 0 where
  pub from : Origin
  pub head : Head
  pub kept : List (List ℕ)
  pub log : IsLog id files from head kept
  pub there : (place < from.first) ⊎ IsIn (place - from.first) bytes kept

-- it stands at its place in these files
pub record StandsIn (id place : ℕ) (bytes : List ℕ) (files : Files) : Type 0 where
  pub from : Origin
  pub head : Head
  pub kept : List (List ℕ)
  pub log : IsLog id files from head kept
  pub order : from.first ≤ place
  pub there : IsIn (place - from.first) bytes kept
