-- The steps in which a log is opened.
use Rattle.std.specs.Prelude.{◌≡◌, ◌≢◌, ◌⊎◌, ℕ, ◌+◌, ◌<◌, ◌≤◌, List, []}
use Rattle.gw_log.specs.Disk.{Files, Only, LeavesOnly, AreEnds}
use Rattle.gw_log.specs.Chain.{Head, Origin, IsLog, HasHead}

-- A run of calls that only reads: the files are the same, and a crash leaves no more than before it, at any moment
pub record Reads {D : Type 0} (seen : D → Files) (may_leave : D → Files → Type 0) (moment : D → ℕ) (left_since : D → ℕ → Files → Type 0) (honest : D → Type 0) (old new : D) : Type 0 where
  pub same : seen new ≡ seen old
  pub crash : (c : Files) → may_leave new c → may_leave old c
  pub moments : LeavesOnly moment left_since old new (may_leave old)
  pub back : honest new → honest old

-- the file of the top number may be gone, unless it is the last
pub record IsTrimmed (last top : ℕ) (old c : Files) : Type 0 where
  pub others : (m : ℕ) → m ≢ top → c m ≡ old m
  pub here : (c top ≡ old top) ⊎ ((top ≢ last) × (c top ≡ []))

-- a crash while it is removed leaves it there or not, where all files are on the disk
abbrev pub LeavesTrimmed : {D : Type 0} → (D → Files) → (D → Files → Type 0) → (D → ℕ) → (D → ℕ → Files → Type 0) → (last top : ℕ) → (old new : D) → Type 0
LeavesTrimmed seen may_leave moment left_since last top old new =
    Only (seen old) (may_leave old) → LeavesOnly moment left_since old new (IsTrimmed last top (seen old))

-- the folder's last file, what its head says, and the least number of a file are these
pub record IsFound (from : Origin) (head : Head) (number first keep least : ℕ) : Type 0 where
  pub its_number : head.number ≡ number
  pub its_first : head.first ≡ first
  pub its_keep : head.keep ≡ keep
  pub its_least : from.number ≡ least

-- whatever log the folder is
abbrev pub Finds : (id : ℕ) → Files → (number first keep least : ℕ) → Type 0
Finds id files number first keep least =
    (from : Origin) (head : Head) (records : List (List ℕ)) → IsLog id files from head records → IsFound from head number first keep least

-- of whatever log the folder is, from this file to that one, this is the last
abbrev pub IsLastOf : (first top n : ℕ) → Files → Type 0
IsLastOf first top n files =
    (id : ℕ) (from : Origin) (head : Head) (records : List (List ℕ)) → IsLog id files from head records → AreEnds first top files → head.number ≡ n

-- no file but that of the top number stands behind the last one, and that next to it
pub record IsTop (files : Files) (last top : ℕ) : Type 0 where
  pub low : last ≤ top
  pub high : top ≤ last + 1
  pub none : (m : ℕ) → top < m → files m ≡ []

-- the file has no head of this log and number
abbrev pub HasNoHead : (id number : ℕ) → List ℕ → Type 0
HasNoHead id number file = (before : ℕ) → HasHead id number before file → ⊥

-- a head of the file is one of this log
abbrev pub IsHeadedBy : (id : ℕ) → List ℕ → Type 0
IsHeadedBy id file = (other number before : ℕ) → HasHead other number before file → other ≡ id

-- the folder is no log whose files go from the first to the last
abbrev pub IsNoLogOf : (id first last : ℕ) → Files → Type 0
IsNoLogOf id first last files =
    (from : Origin) (head : Head) (records : List (List ℕ)) → IsLog id files from head records → from.number ≡ first → head.number ≡ last → ⊥

-- nor, with files from the first to the top, one of any number
abbrev pub IsNoLogUpTo : (first top : ℕ) → Files → Type 0
IsNoLogUpTo first top files =
    (id : ℕ) (from : Origin) (head : Head) (records : List (List ℕ)) → IsLog id files from head records → AreEnds first top files → ⊥
