-- What is listed of a log: the records of its files, in order, but for their heads and their ends.
use Rattle.std.specs.Prelude.{◌≡◌, ⊤, ℕ, zero, suc, ◌+◌, ◌≤◌, Bool, T, IsTrue, List, [], ◌∷◌, ◌++◌, length}
use Rattle.gw_log.specs.Disk.{Files}
use Rattle.gw_log.specs.File.{Has, AreShort}
use Rattle.gw_log.specs.Opening.{IsSealed}
use Rattle.gw_log.specs.State.{ReaderState, IsRead, at_rest}

-- the records that have a byte: an empty one ends a file
abbrev pub some : List (List ℕ) → List (List ℕ)
some [] = []
some ([] ∷ records) = some records
some ((byte ∷ bytes) ∷ records) = (byte ∷ bytes) ∷ some records

-- these records are those that Before has, and behind them those of a file behind its head
pub record EndWith (file : List ℕ) (Before : List (List ℕ) → Type 0) (records : List (List ℕ)) : Type 0 where
  pub front : List (List ℕ)
  pub head : List ℕ
  pub these : List (List ℕ)
  pub before : Before front
  pub has : Has (head ∷ these) file
  pub all : records ≡ front ++ some these

-- this number of files, from the first on, has these records behind their heads
abbrev pub AreListed : Files → (first count : ℕ) → List (List ℕ) → Type 0
AreListed files first zero records = records ≡ []
AreListed files first (suc count) records = EndWith (files (first + count)) (AreListed files first count) records

-- The file was ended: its last record is the empty one, and behind it stands a gate of 0
pub record IsClosed (file : List ℕ) : Type 0 where
  pub records : List (List ℕ)
  pub sealed : IsSealed records
  pub short : AreShort records
  pub rest : file ≡ at_rest records

-- this number of files, from the first on, was ended
abbrev pub AreClosed : Files → (first count : ℕ) → Type 0
AreClosed files first zero = ⊤
AreClosed files first (suc count) = AreClosed files first count × IsClosed (files (first + count))

-- A walk over a log: the reader of the file where it stands, and up to where it reads; the log's number, the number of its first file,
-- and how many records stood before it; the numbers of the file where it stands and of the last, the place of the next record, the head of that file,
-- and whether the record was read that ends it
pub record WalkState (D : Type 0) : Type 0 where
  pub reader : ReaderState D
  pub upto : ℕ
  pub id : ℕ
  pub first : ℕ
  pub start : ℕ
  pub number : ℕ
  pub last : ℕ
  pub place : ℕ
  pub head : List ℕ
  pub ended : Bool

-- These records were given: those of the files before the one where it stands, each of which was ended, and of this one those that were read
pub record IsListed {D : Type 0} (seen : D → Files) (w : WalkState D) (records : List (List ℕ)) : Type 0 where
  pub count : ℕ
  pub front : List (List ℕ)
  pub these : List (List ℕ)
  pub files : AreListed (seen w.reader.disk) w.first count front
  pub closed : AreClosed (seen w.reader.disk) w.first count
  pub read : IsRead seen w.reader (w.head ∷ these)
  pub all_open : IsTrue w.reader.is_open
  pub ended : T w.ended → IsSealed (w.head ∷ these)
  pub number : w.reader.number ≡ w.number
  pub counted : w.number ≡ w.first + count
  pub upto : w.upto + 1 ≡ length (seen w.reader.disk w.number)
  pub all : records ≡ front ++ some these
  pub place : w.place ≡ w.start + length records

-- the file where it stands was read to its end
abbrev pub IsAtEnd : {D : Type 0} → WalkState D → Type 0
IsAtEnd w = w.upto ≤ w.reader.at

-- all files were listed, from the first to the last
abbrev pub AreAllListed : Files → (first last : ℕ) → List (List ℕ) → Type 0
AreAllListed files first last records = (count : ℕ) × (first + count ≡ last + 1) × AreListed files first count records

-- the files before the one where it stands were ended
abbrev pub AreBeforeClosed : {D : Type 0} → (D → Files) → WalkState D → Type 0
AreBeforeClosed seen w = (count : ℕ) × (w.number ≡ w.first + count) × AreClosed (seen w.reader.disk) w.first count
