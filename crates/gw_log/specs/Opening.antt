-- What the files of a folder say of each other, which is looked at when a log is opened.
use Rattle.std.specs.Prelude.{◌≡◌, ℕ, ◌+◌, ◌<◌, ◌≤◌, List, [], ◌∷◌, ◌++◌, length}
use Rattle.gw_log.specs.Disk.{Files}
use Rattle.gw_log.specs.File.{HasRecordAt}
use Rattle.gw_log.specs.Chain.{Head, spelled, IsWide, Origin, IsLog, LogState}

-- the file begins with a head of this log and number, which says these
pub record BeginsAs (id number first before keep : ℕ) (file : List ℕ) : Type 0 where
  pub head : Head
  pub wide : IsWide head
  pub here : HasRecordAt 0 (spelled head) file
  pub its_id : head.id ≡ id
  pub its_number : head.number ≡ number
  pub its_first : head.first ≡ first
  pub its_before : head.before ≡ before
  pub its_keep : head.keep ≡ keep

-- it begins with one that says this number, and a place of its first record that isn't above this one
pub record BeginsBy (id number place : ℕ) (file : List ℕ) : Type 0 where
  pub first : ℕ
  pub before : ℕ
  pub keep : ℕ
  pub begins : BeginsAs id number first before keep file
  pub within : first ≤ place

-- what the folder is a log of, it is of this number
abbrev pub IsOnlyOf : ℕ → Files → Type 0
IsOnlyOf id files = (other : ℕ) (from : Origin) (head : Head) (records : List (List ℕ)) → IsLog other files from head records → other ≡ id

-- the last file of a log begins with the head that its state tells
abbrev pub HasItsHead : {D : Type 0} → (D → Files) → ℕ → D → LogState D → Type 0
HasItsHead seen id disk s = (before : ℕ) × BeginsAs id s.segment.number s.first before s.keep (seen disk s.segment.number)

-- These rows are the records of a log's last file: its head, and then the log's own, from the place on that the head says
pub record AreOfLast (from : Origin) (head : Head) (records rows : List (List ℕ)) : Type 0 where
  pub front : List (List ℕ)
  pub rest : List (List ℕ)
  pub rows_are : rows ≡ spelled head ∷ rest
  pub split : records ≡ front ++ rest
  pub place : head.first ≡ from.first + length front

-- of whatever log the folder is, these rows are the records of the last file
abbrev pub GivesLast : {D : Type 0} → (D → Files) → ℕ → D → List (List ℕ) → Type 0
GivesLast seen id disk rows =
    (from : Origin) (head : Head) (records : List (List ℕ)) → IsLog id (seen disk) from head records → AreOfLast from head records rows

-- it begins with one that follows on a file of this length
pub record IsPlaced (id number before : ℕ) (file : List ℕ) : Type 0 where
  pub first : ℕ
  pub keep : ℕ
  pub begins : BeginsAs id number first before keep file

-- Each file from the first to the last begins with a head of this log and of its own number, which says how long the file before it is
pub record AreLinked (id : ℕ) (files : Files) (first last : ℕ) : Type 0 where
  pub before : ℕ
  pub start : IsPlaced id first before (files first)
  pub next : (n : ℕ) → first ≤ n → n < last → IsPlaced id (n + 1) (length (files n)) (files (n + 1))

-- an empty record ends them
pub record IsSealed (records : List (List ℕ)) : Type 0 where
  pub front : List (List ℕ)
  pub is : records ≡ front ++ [] ∷ []
