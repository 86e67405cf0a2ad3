-- What the steps of a call do to a file.
use Rattle.std.specs.Prelude.{◌≡◌, ◌≢◌, ◌⊎◌, ⊤, ℕ, ◌+◌, ◌<◌, ◌≤◌, ◌^◌, Bool, IsTrue, List, [], ◌∷◌, ◌++◌, length, take, drop, Result, OnOk}
use Rattle.gw_log.specs.declared.fault.LogFault.{LogFault}
use Rattle.gw_log.specs.declared.fault.LogFault.TheVariants as fault
use Rattle.gw_log.specs.Disk.{Files, IsGone, IsMixed, Only, LeavesChanged}
use Rattle.gw_log.specs.File.{item, counted, body, blocks, batch, AreShort, Has, HasEither, HasOrIs, HasRecordAt, IsShut, IsEnd, IsDamagedAt}
use Rattle.gw_log.specs.State.{SegmentState, Stands, IsStaged, at_rest, staged}

-- behind a gate the bytes begin with this record, and these stand behind it
pub record Begins (bytes r more : List ℕ) : Type 0 where
  pub whole : bytes ≡ body r ++ more
  pub short : length (item r) < 2 ^ 32

-- the same of an item
pub record BeginsItem (bytes item more : List ℕ) : Type 0 where
  pub whole : bytes ≡ counted item ++ more
  pub short : length item < 2 ^ 32

-- the same behind an open gate
pub record BeginsOpen (bytes r more : List ℕ) : Type 0 where
  pub whole : bytes ≡ 1 ∷ body r ++ more
  pub short : length (item r) < 2 ^ 32

-- the bytes begin with no record, or with no item
abbrev pub HasNone : List ℕ → Type 0
HasNone bytes = (r more : List ℕ) → length (item r) < 2 ^ 32 → bytes ≡ body r ++ more → ⊥

abbrev pub HasNoItem : List ℕ → Type 0
HasNoItem bytes = (item more : List ℕ) → BeginsItem bytes item more → ⊥

-- the same of bytes behind some gate
pub record BeginsGated (bytes r more : List ℕ) (is_open : Bool) : Type 0 where
  pub gate : ℕ
  pub whole : bytes ≡ gate ∷ body r ++ more
  pub short : length (item r) < 2 ^ 32
  pub opened : IsTrue is_open → gate ≡ 1

-- the bytes are these records, each behind an open gate, and this rest
pub record IsReadTo (file rest : List ℕ) (records : List (List ℕ)) : Type 0 where
  pub whole : file ≡ blocks records ++ rest
  pub short : AreShort records

-- behind an open gate at the front of these bytes stands no record
abbrev pub Stops : List ℕ → Type 0
Stops bytes = (r more : List ℕ) → length (item r) < 2 ^ 32 → bytes ≡ 1 ∷ body r ++ more → ⊥

-- the end of no file begins so
abbrev pub HasNoEnd : List ℕ → Type 0
HasNoEnd bytes = (last : List (List ℕ)) → IsEnd last bytes → ⊥

-- the records of the last batch stand behind those, up to this place of the bytes
pub record IsBatchRead (bytes : List ℕ) (at : ℕ) (before now : List (List ℕ)) : Type 0 where
  pub last : List (List ℕ)
  pub all : now ≡ before ++ last
  pub shut : IsShut last bytes
  pub here : at ≡ length (blocks last)

-- a record stands at this place of a file, and its gate is open if it says so
pub record IsThere (at : ℕ) (is_open : Bool) (bytes file : List ℕ) : Type 0 where
  pub has : HasRecordAt at bytes file
  pub opened : IsTrue is_open → has.gate ≡ 1

-- these records stand behind those, up to this place of the bytes, and there it ends
pub record IsReadOn (bytes : List ℕ) (at : ℕ) (before now : List (List ℕ)) : Type 0 where
  pub more : List (List ℕ)
  pub all : now ≡ before ++ more
  pub read : IsReadTo bytes (drop at bytes) more
  pub within : at ≤ length bytes
  pub stops : Stops (drop at bytes)

-- The file has these records. Here stands the first gate that isn't open, and here they end. This is how many bytes have to stay:
-- with the gate behind a batch whose own gate isn't open
pub record UpTo (file : List ℕ) (end reach size : ℕ) (records : List (List ℕ)) : Type 0 where
  pub has : Has records file
  pub here : end ≡ length (blocks has.front)
  pub reaches : reach ≡ length (blocks records)
  pub keeps : ((end ≡ reach) × (size ≡ reach)) ⊎ ((end ≢ reach) × (size ≡ reach + 1))

-- a file of these records and this batch, of which a crash may have left a part
pub record BeginsStaged (gate : ℕ) (records last : List (List ℕ)) (bytes file : List ℕ) : Type 0 where
  pub rest : List ℕ
  pub whole : file ≡ staged gate 2 records last ++ rest
  pub mixed : IsMixed [] bytes rest

-- The file has these records; or, where a gate of 2 stands behind the batch, those and the batch
abbrev pub HasAdded : ℕ → List (List ℕ) → List (List ℕ) → List ℕ → Type 0
HasAdded close these more file = Has these file ⊎ ((close ≡ 2) × Has (these ++ more) file)

-- what is read of a file at first, from this offset on
abbrev pub IsFront : ℕ → List ℕ → List ℕ → Type 0
IsFront at front file = front ≡ take 4096 (drop at file)

-- why a file is not read: no memory, or damage
abbrev pub Refuses : List ℕ → LogFault → Type 0
Refuses file fault.Memory = ⊤
Refuses file (fault.Damaged segment at) = IsDamagedAt at file
Refuses file fault.Device = ⊥
Refuses file fault.Full = ⊥
Refuses file fault.TooLong = ⊥
Refuses file fault.Empty = ⊥
Refuses file fault.Taken = ⊥
Refuses file fault.Missing = ⊥

-- The file of this number has these records, each behind an open gate, and is ended. All of it is on the disk
pub record IsAtRest {D : Type 0} (seen : D → Files) (may_leave : D → Files → Type 0) (disk : D) (number : ℕ) (records : List (List ℕ)) : Type 0 where
  pub file : seen disk number ≡ at_rest records
  pub durable : Only (seen disk) (may_leave disk)

-- The gate of a batch with a gate of 0 behind it is opened: at `Ok` its records count
abbrev pub OpensGate : {D T E : Type 0} → (D → Files) → (D → Files → Type 0) → (number end : ℕ) → (old new : D) → Result T E → Type 0
OpensGate seen may_leave number end old new result =
    (reach : ℕ) (these last : List (List ℕ)) → IsStaged seen may_leave 0 old number end reach these last → 1 ≤ length last
    → OnOk result (IsAtRest seen may_leave new number (these ++ last))

-- a crash while it is opened leaves the records before it, or all, with nothing behind them
abbrev pub LeavesOpening : {D : Type 0} → (D → Files) → (D → Files → Type 0) → (D → ℕ) → (D → ℕ → Files → Type 0) → (number end : ℕ) → (old new : D) → Type 0
LeavesOpening seen may_leave moment left_since number end old new =
    (reach : ℕ) (these last : List (List ℕ)) → IsStaged seen may_leave 0 old number end reach these last → 1 ≤ length last
    → LeavesChanged seen moment left_since old new number (HasOrIs these (these ++ last))

-- A batch is added, whose bytes are given but for the first gate: at `Ok` it is the last one
abbrev pub AddsBatch : {D T E : Type 0} → (D → Files) → (D → Files → Type 0) → (number end reach : ℕ) → List ℕ → (old new : D) → Result T E → Type 0
AddsBatch seen may_leave number end reach bytes old new result =
    (close : ℕ) (these last more : List (List ℕ)) → IsStaged seen may_leave 2 old number end reach these last → bytes ≡ batch close more → AreShort more
    → close ≢ 1 → OnOk result (IsStaged seen may_leave close new number reach (reach + length bytes) (these ++ last) more)

-- A crash while it is added leaves the records that there were, or those with the batch
abbrev pub LeavesAdding : {D : Type 0} → (D → Files) → (D → Files → Type 0) → (D → ℕ) → (D → ℕ → Files → Type 0) → (number end reach : ℕ) → List ℕ
    → (old new : D) → Type 0
LeavesAdding seen may_leave moment left_since number end reach bytes old new =
    (close : ℕ) (these last more : List (List ℕ)) → IsStaged seen may_leave 2 old number end reach these last → bytes ≡ batch close more → AreShort more
    → LeavesChanged seen moment left_since old new number (HasAdded close (these ++ last) more)

-- A file that has no byte is begun with records, whose bytes are given but for the first gate: at `Ok` they count
abbrev pub BeginsFile : {D T E : Type 0} → (D → Files) → (D → Files → Type 0) → ℕ → List ℕ → (old new : D) → Result T E → Type 0
BeginsFile seen may_leave number bytes old new result =
    (records : List (List ℕ)) → Only (seen old) (may_leave old) → seen old number ≡ [] → bytes ≡ batch 2 records → AreShort records
    → OnOk result (IsStaged seen may_leave 2 new number 0 (length bytes) [] records)

-- a crash while it is begun leaves none of them or all
abbrev pub LeavesBeginning : {D : Type 0} → (D → Files) → (D → Files → Type 0) → (D → ℕ) → (D → ℕ → Files → Type 0) → ℕ → List ℕ → (old new : D) → Type 0
LeavesBeginning seen may_leave moment left_since number bytes old new =
    (records : List (List ℕ)) → Only (seen old) (may_leave old) → seen old number ≡ [] → bytes ≡ batch 2 records → AreShort records
    → LeavesChanged seen moment left_since old new number (HasEither [] records)

-- the same of a file with these records, from the one disk to the other
abbrev pub LeavesBegun : {D : Type 0} → (D → Files) → (D → ℕ) → (D → ℕ → Files → Type 0) → ℕ → List (List ℕ) → (old new : D) → Type 0
LeavesBegun seen moment left_since number records old new =
    seen old number ≡ [] → LeavesChanged seen moment left_since old new number (HasEither [] records)

-- What stands behind the records of a file, which end here, is cut off, and each gate before them opened: at `Ok` it has them and no more
abbrev pub Repairs : {D T E : Type 0} → (D → Files) → (D → Files → Type 0) → (number end reach size : ℕ) → (old new : D) → Result T E → Type 0
Repairs seen may_leave number end reach size old new result =
    (records : List (List ℕ)) → Only (seen old) (may_leave old) → UpTo (seen old number) end reach size records
    → OnOk result (IsStaged seen may_leave 2 new number reach reach records [])

-- a crash while it is cut off leaves the records
abbrev pub LeavesRepairing : {D : Type 0} → (D → Files) → (D → Files → Type 0) → (D → ℕ) → (D → ℕ → Files → Type 0) → (number end reach size : ℕ) → (old new : D) → Type 0
LeavesRepairing seen may_leave moment left_since number end reach size old new =
    (records : List (List ℕ)) → Only (seen old) (may_leave old) → UpTo (seen old number) end reach size records
    → LeavesChanged seen moment left_since old new number (Has records)

-- The file of this number is removed: at `Ok` a segment over another one has what it had
abbrev pub Spares : {D T E : Type 0} → (D → Files) → (D → Files → Type 0) → ℕ → SegmentState D → SegmentState D → Result T E → Type 0
Spares seen may_leave number old new result =
    (these : List (List ℕ)) → Stands seen may_leave old these → number ≢ old.number → OnOk result (Stands seen may_leave new these)

-- a crash while it is removed leaves it as it was, or without a byte
abbrev pub LeavesRemoved : {D : Type 0} → (D → Files) → (D → Files → Type 0) → (D → ℕ) → (D → ℕ → Files → Type 0) → ℕ → SegmentState D → SegmentState D → Type 0
LeavesRemoved seen may_leave moment left_since number old new =
    (these : List (List ℕ)) → Stands seen may_leave old these
    → LeavesChanged seen moment left_since old.disk new.disk number (IsGone (seen old.disk number))
