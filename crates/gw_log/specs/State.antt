-- What a segment of a log is while it is open.
use Rattle.std.specs.Prelude.{◌≡◌, ◌≢◌, ℕ, Bool, false, IsTrue, ◌+◌, ◌<◌, ◌^◌, List, [], ◌∷◌, ◌++◌, length, drop, map, Vec, Result, OnOk}
use Rattle.std.specs.declared.alloc.Global.{Global}
use Rattle.gw_log.specs.Disk.{Files, Changes, Only, LeavesOnly}
use Rattle.gw_log.specs.File.{blocks, batch, AreShort, HasEither}

-- a file that is ended: the records, each behind an open gate, and a gate of 0
abbrev pub at_rest : List (List ℕ) → List ℕ
at_rest records = blocks records ++ 0 ∷ []

-- The records, each behind an open gate, and behind them those of the last batch, whose gate isn't open yet. This gate stands at the end
abbrev pub staged : (gate close : ℕ) (records last : List (List ℕ)) → List ℕ
staged gate close records last = blocks records ++ gate ∷ batch close last

-- the disk, the number of the segment's file, the place of the gate that isn't open, where the records end, and whether the disk has failed
pub record SegmentState (D : Type 0) : Type 0 where
  pub disk : D
  pub number : ℕ
  pub end : ℕ
  pub reach : ℕ
  pub broken : Bool

-- The file of this number has these records behind open gates, and these of the last batch. Its gate stands here, and here they end.
-- All of it is on the disk, whatever crash comes, and no other file is in motion
pub record IsStaged {D : Type 0} (seen : D → Files) (may_leave : D → Files → Type 0) (close : ℕ) (disk : D) (number end reach : ℕ) (records last : List (List ℕ)) : Type 0 where
  pub gate : ℕ
  pub shut : gate ≢ 1
  pub file : seen disk number ≡ staged gate close records last
  pub short : AreShort records
  pub fits : AreShort last
  pub ends : end ≡ length (blocks records)
  pub reaches : reach ≡ end + length (blocks last)
  pub durable : Only (seen disk) (may_leave disk)

-- The disk stands, and the segment has these records: those of the last batch count, since a gate of 2 says that it is whole
pub record Stands {D : Type 0} (seen : D → Files) (may_leave : D → Files → Type 0) (s : SegmentState D) (records : List (List ℕ)) : Type 0 where
  pub unbroken : s.broken ≡ false
  pub these : List (List ℕ)
  pub last : List (List ℕ)
  pub all : records ≡ these ++ last
  pub staged : IsStaged seen may_leave 2 s.disk s.number s.end s.reach these last

-- at `Ok` the segment has this batch behind the others, whatever crash comes
abbrev pub Secures : {D T E : Type 0} → (D → Files) → (D → Files → Type 0) → SegmentState D → SegmentState D → List (List ℕ) → Result T E → Type 0
Secures seen may_leave old new more result =
    (these : List (List ℕ)) → Stands seen may_leave old these → OnOk result (Stands seen may_leave new (these ++ more))

-- a crash at any moment since then leaves a file that has what it had, or that with the batch
abbrev pub LeavesFile : {D : Type 0} → (D → Files) → (D → Files → Type 0) → (D → ℕ) → (D → ℕ → Files → Type 0)
    → SegmentState D → SegmentState D → List (List ℕ) → Type 0
LeavesFile seen may_leave moment left_since old new more =
    (these : List (List ℕ)) → Stands seen may_leave old these
    → LeavesOnly moment left_since old.disk new.disk (Changes old.number (HasEither these (these ++ more)) (seen old.disk))

-- the disk of a reader, the number of its file, where it stands, up to where it reads, and whether each gate that it has passed was open
pub record ReaderState (D : Type 0) : Type 0 where
  pub disk : D
  pub number : ℕ
  pub at : ℕ
  pub upto : ℕ
  pub is_open : Bool

-- These records were read: the file begins with them, and behind them the reader stands. Where a gate wasn't open, it has their length
pub record IsRead {D : Type 0} (seen : D → Files) (r : ReaderState D) (records : List (List ℕ)) : Type 0 where
  pub whole : IsTrue r.is_open → seen r.disk r.number ≡ blocks records ++ drop r.at (seen r.disk r.number)
  pub short : AreShort records
  pub here : r.at ≡ length (blocks records)
  pub small : length (seen r.disk r.number) < 2 ^ 63

-- one record more was read
abbrev pub ReadsOn : {D : Type 0} → (D → Files) → ReaderState D → ReaderState D → List ℕ → Type 0
ReadsOn seen old new bytes = (before : List (List ℕ)) → IsRead seen old before → IsRead seen new (before ++ bytes ∷ [])

-- the bytes of rows in memory
abbrev pub records_of : List (Vec ℕ Global) → List (List ℕ)
records_of = map (λ v. v.items)
