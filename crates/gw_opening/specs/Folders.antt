-- What the folder of a gateway has when a gateway starts.
use Rattle.std.specs.Prelude.{◌≡◌, ◌⊎◌, ℕ, List, [], map}
use Rattle.std.specs.List.{AllByRecursion}
use Rattle.gw_due.specs.Due.{Name}
use Rattle.gw_due.specs.Lawful.{Lawful}
use Rattle.gw_due.specs.Spelling.{Entry, Fits, spelled}
use Rattle.gw_journal.specs.Stored.{IsKept}
use Rattle.gw_ledger.specs.Ledgers.{Spares, Tells, events_of}
use Rattle.gw_log.specs.Disk.{Files}

-- The files are a log of this number. All its records since it was created spell these entries, whose events are lawful.
-- The checkpoint of its last file is that of the entries before the file
pub record IsGatewayLog (Routes : (names : List Name) (plan to bytes : List ℕ) → Type 0) (id : ℕ) (files : Files) (entries : List Entry) : Type 0 where
  pub kept : IsKept Tells Spares id files (map spelled entries)
  pub fit : AllByRecursion Fits entries
  pub lawful : Lawful Routes (events_of entries)

-- no file has a byte
abbrev pub HasNoFile : Files → Type 0
HasNoFile files = (number : ℕ) → files number ≡ []

-- such a log, or no file
abbrev pub IsFolder : (Routes : (names : List Name) (plan to bytes : List ℕ) → Type 0) → ℕ → Files → List Entry → Type 0
IsFolder Routes id files entries = IsGatewayLog Routes id files entries ⊎ (HasNoFile files × (entries ≡ []))

-- they are such a log, which has these records
pub record IsFoundAgain (Routes : (names : List Name) (plan to bytes : List ℕ) → Type 0) (id : ℕ) (files : Files) (records : List (List ℕ)) : Type 0 where
  pub entries : List Entry
  pub are : records ≡ map spelled entries
  pub log : IsGatewayLog Routes id files entries
