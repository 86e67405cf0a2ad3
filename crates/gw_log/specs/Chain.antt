-- A log over the files of a folder: each says of which log it is, its number, how many records stand before it, and how long its predecessor is.
use Rattle.std.specs.Prelude.{◌≡◌, ◌≢◌, ◌⊎◌, ℕ, ◌+◌, ◌<◌, ◌≤◌, ◌^◌, Bool, MatchBool, List, [], ◌∷◌, ◌++◌, length, Result, IfOk, OnOk}
use Rattle.std.specs.Int.{w64, to_be_bytes}
use Rattle.std.specs.List.{AllByRecursion}
use Rattle.gw_log.specs.Disk.{Files, LeavesOnly}
use Rattle.gw_log.specs.File.{blocks, AreShort, Has}
use Rattle.gw_log.specs.State.{SegmentState, Stands}

-- What the first record of each file says
pub record Head : Type 0 where
  -- the file's own number
  pub number : ℕ
  -- how many records stand in the log before this file
  pub first : ℕ
  -- how many bytes the file before this one has
  pub before : ℕ
  -- records at places below this one may be gone, with their files
  pub keep : ℕ
  -- the log's own number
  pub id : ℕ
  -- bytes that a start needs
  pub checkpoint : List ℕ

-- five numbers of eight bytes, and the checkpoint
abbrev pub spelled : Head → List ℕ
spelled h = to_be_bytes w64 h.number ++ to_be_bytes w64 h.first ++ to_be_bytes w64 h.before ++ to_be_bytes w64 h.keep ++ to_be_bytes w64 h.id ++ h.checkpoint

-- each number fits its eight bytes
pub record IsWide (h : Head) : Type 0 where
  pub its_number : h.number < 2 ^ 64
  pub its_first : h.first < 2 ^ 64
  pub its_before : h.before < 2 ^ 64
  pub its_keep : h.keep < 2 ^ 64
  pub its_id : h.id < 2 ^ 64

-- No record is empty: an empty one ends a file
abbrev pub AreSome : List (List ℕ) → Type 0
AreSome records = AllByRecursion (λ r. r ≢ []) records

-- the records of a file that is ended
abbrev pub ended : Head → List (List ℕ) → List (List ℕ)
ended h records = spelled h ∷ records ++ [] ∷ []

-- The file has this head, and these records, and is ended for good
pub record IsEnded (h : Head) (records : List (List ℕ)) (file : List ℕ) : Type 0 where
  pub wide : IsWide h
  pub some : AreSome records
  pub short : AreShort (ended h records)
  pub whole : file ≡ blocks (ended h records) ++ 0 ∷ []

-- the head is that of the file of this number: this count of records stands before it, and the file before it has this length
pub record Follows (id number first before : ℕ) (h : Head) : Type 0 where
  pub its_id : h.id ≡ id
  pub its_number : h.number ≡ number
  pub its_first : h.first ≡ first
  pub its_before : h.before ≡ before

-- The files from a number on, up to the one before the file with the last head, are ended, and have these records: each follows on the one before it
pub data AreBefore (id : ℕ) (files : Files) (last : Head) : (number first before : ℕ) → List (List ℕ) → Type 0 where
  none : (number first before : ℕ) → Follows id number first before last → AreBefore id files last number first before []
  more : (number first before : ℕ) (h : Head) (these those : List (List ℕ)) → Follows id number first before h → IsEnded h these (files number)
      → AreBefore id files last (number + 1) (first + length these) (length (files number)) those → AreBefore id files last number first before (these ++ those)

-- A file that a crash may have left unborn: it has a head at most
pub record IsUnborn (file : List ℕ) : Type 0 where
  pub records : List (List ℕ)
  pub has : Has records file
  pub at_most : length records ≤ 1

-- where a log begins: the number of its first file, how many records stood before it, and how long the file before it was
pub record Origin : Type 0 where
  pub number : ℕ
  pub first : ℕ
  pub before : ℕ

-- the last file: it has this head and these records, and isn't ended
pub record IsLast (h : Head) (records : List (List ℕ)) (file : List ℕ) : Type 0 where
  pub wide : IsWide h
  pub some : AreSome records
  pub has : Has (spelled h ∷ records) file

-- The files of a folder are the log of this number from an origin on, with this head of the last file, and with these records.
-- No record is missing, but for those that may be gone
pub record IsLog (id : ℕ) (files : Files) (from : Origin) (head : Head) (records : List (List ℕ)) : Type 0 where
  pub front : List (List ℕ)
  pub these : List (List ℕ)
  pub ended : AreBefore id files head from.number from.first from.before front
  pub last : IsLast head these (files head.number)
  pub all : records ≡ front ++ these
  pub there : from.first ≤ head.keep
  pub none_below : (number : ℕ) → number < from.number → files number ≡ []
  pub unborn : IsUnborn (files (head.number + 1))
  pub none_above : (number : ℕ) → head.number + 1 < number → files number ≡ []

-- the files of a folder are no log of this number
abbrev pub IsNoLog : ℕ → Files → Type 0
IsNoLog id files = (from : Origin) (head : Head) (records : List (List ℕ)) → IsLog id files from head records → ⊥

-- A log that is open: the segment over its last file, the log's number, how many records stand before that file and in it,
-- below which place records may be gone, and the least number of a file that is there
pub record LogState (D : Type 0) : Type 0 where
  pub segment : SegmentState D
  pub id : ℕ
  pub first : ℕ
  pub count : ℕ
  pub keep : ℕ
  pub least : ℕ

-- the same log over a disk on which nothing else was done but to read
abbrev pub with_disk : {D : Type 0} → D → LogState D → LogState D
with_disk disk s = record s { segment = record s.segment { disk = disk } }

-- The log has this head of its last file and these records, on the disk whatever crash comes
pub record Holds {D : Type 0} (seen : D → Files) (may_leave : D → Files → Type 0) (s : LogState D) (from : Origin) (head : Head)
    (records : List (List ℕ)) : Type 0 where
  pub front : List (List ℕ)
  pub these : List (List ℕ)
  pub ended : AreBefore s.id (seen s.segment.disk) head from.number from.first from.before front
  pub wide : IsWide head
  pub some : AreSome these
  pub stands : Stands seen may_leave s.segment (spelled head ∷ these)
  pub number : head.number ≡ s.segment.number
  pub all : records ≡ front ++ these
  pub there : from.first ≤ head.keep
  pub none_below : (number : ℕ) → number < from.number → seen s.segment.disk number ≡ []
  pub none_above : (number : ℕ) → head.number < number → seen s.segment.disk number ≡ []
  pub first : head.first ≡ s.first
  pub count : s.count ≡ length these
  pub keep : head.keep ≡ s.keep
  pub least : from.number ≡ s.least

-- a log of these records, or of those, with this head
abbrev pub IsEither : ℕ → Origin → Head → List (List ℕ) → List (List ℕ) → Files → Type 0
IsEither id from head these those files = IsLog id files from head these ⊎ IsLog id files from head those

-- a log of these records, with this head or the next one
abbrev pub IsThisOrNext : ℕ → Origin → (head next : Head) → List (List ℕ) → Files → Type 0
IsThisOrNext id from head next these files = IsLog id files from head these ⊎ IsLog id files from next these

-- what the folder is a log of, the log holds
abbrev pub HoldsAll : {D : Type 0} → (D → Files) → (D → Files → Type 0) → ℕ → D → LogState D → Type 0
HoldsAll seen may_leave id disk s =
    (from : Origin) (head : Head) (records : List (List ℕ)) → IsLog id (seen disk) from head records → Holds seen may_leave s from head records

-- a crash at any moment since then leaves a log of the same head and records
abbrev pub LeavesLog : {D : Type 0} → (D → Files) → (D → ℕ) → (D → ℕ → Files → Type 0) → ℕ → D → D → Type 0
LeavesLog seen moment left_since id old new =
    (from : Origin) (head : Head) (records : List (List ℕ)) → IsLog id (seen old) from head records
    → LeavesOnly moment left_since old new (λ c. IsLog id c from head records)

-- at `Ok` the log holds this batch behind the others, whatever crash comes. The head is the same
abbrev pub Commits : {D T E : Type 0} → (D → Files) → (D → Files → Type 0) → LogState D → LogState D → List (List ℕ) → Result T E → Type 0
Commits seen may_leave old new batch result =
    (from : Origin) (head : Head) (these : List (List ℕ)) → Holds seen may_leave old from head these
    → OnOk result (Holds seen may_leave new from head (these ++ batch))

-- a crash at any moment since then leaves a log of what there was, or of that with the batch, with the same head
abbrev pub LeavesCounted : {D : Type 0} → (D → Files) → (D → Files → Type 0) → (D → ℕ) → (D → ℕ → Files → Type 0) → LogState D → LogState D
    → List (List ℕ) → Type 0
LeavesCounted seen may_leave moment left_since old new batch =
    (from : Origin) (head : Head) (these : List (List ℕ)) → Holds seen may_leave old from head these
    → LeavesOnly moment left_since old.segment.disk new.segment.disk (IsEither old.id from head these (these ++ batch))

-- at `Ok` the log holds the same records, whatever crash comes, and the head is this one
abbrev pub GoesOn : {D T E : Type 0} → (D → Files) → (D → Files → Type 0) → LogState D → LogState D → Head → Result T E → Type 0
GoesOn seen may_leave old new next result =
    (from : Origin) (head : Head) (these : List (List ℕ)) → Holds seen may_leave old from head these
    → OnOk result (Holds seen may_leave new from next these)

-- a crash at any moment since then leaves a log of the same records, with the same head or the next one
abbrev pub LeavesGoing : {D : Type 0} → (D → Files) → (D → Files → Type 0) → (D → ℕ) → (D → ℕ → Files → Type 0) → LogState D → LogState D → Head → Type 0
LeavesGoing seen may_leave moment left_since old new next =
    (from : Origin) (head : Head) (these : List (List ℕ)) → Holds seen may_leave old from head these
    → LeavesOnly moment left_since old.segment.disk new.segment.disk (IsThisOrNext old.id from head next these)

-- the head of a log's first file, and where a log begins that is new
abbrev pub first_head : ℕ → List ℕ → Head
first_head id checkpoint = record { number = 1; first = 0; before = 0; keep = 0; id = id; checkpoint = checkpoint }

abbrev pub beginning : Origin
beginning = record { number = 1; first = 0; before = 0 }

-- The head of the file behind the last one. The last one is 46 bytes longer once it is ended: by an empty record, and a gate of 0
abbrev pub next_head : {D : Type 0} → LogState D → (keep : ℕ) → List ℕ → Head
next_head s keep checkpoint = record {
  number = s.segment.number + 1;
  first = s.first + s.count;
  before = s.segment.reach + 46;
  keep = keep;
  id = s.id;
  checkpoint = checkpoint;
}

-- the file begins with a head of this log and number, which follows on so long a file
pub record HasHead (id number before : ℕ) (file : List ℕ) : Type 0 where
  pub head : Head
  pub records : List (List ℕ)
  pub wide : IsWide head
  pub has : Has (spelled head ∷ records) file
  pub its_id : head.id ≡ id
  pub its_number : head.number ≡ number
  pub its_before : head.before ≡ before

-- the file of this number has no byte, and the next one has
pub record IsGap (number : ℕ) (files : Files) : Type 0 where
  pub none : files number ≡ []
  pub next : files (number + 1) ≢ []

-- the first file begins with a head of this log and of its own number, which follows on the file that was before it
abbrev pub HasFirst : ℕ → Files → Origin → Type 0
HasFirst id files from = HasHead id from.number from.before (files from.number)

-- each file behind it, up to the last, with one that says how long the file before it is
abbrev pub AreInPlace : ℕ → Files → Origin → Head → Type 0
AreInPlace id files from last = (n : ℕ) → from.number ≤ n → n < last.number → HasHead id (n + 1) (length (files n)) (files (n + 1))

-- A log goes on from its second file: the records of the first are gone
pub record IsFewer (from : Origin) (records : List (List ℕ)) (to : Origin) (kept : List (List ℕ)) : Type 0 where
  pub gone : List (List ℕ)
  pub split : records ≡ gone ++ kept
  pub number : to.number ≡ from.number + 1
  pub first : to.first ≡ from.first + length gone

-- the log holds those that are left, each at its place
pub record HasRetired {D : Type 0} (seen : D → Files) (may_leave : D → Files → Type 0) (s : LogState D) (from : Origin) (head : Head)
    (records : List (List ℕ)) : Type 0 where
  pub to : Origin
  pub kept : List (List ℕ)
  pub fewer : IsFewer from records to kept
  pub holds : Holds seen may_leave s to head kept

-- a log of those that are left, with the same head
pub record IsShortened (id : ℕ) (from : Origin) (head : Head) (records : List (List ℕ)) (files : Files) : Type 0 where
  pub to : Origin
  pub kept : List (List ℕ)
  pub fewer : IsFewer from records to kept
  pub log : IsLog id files to head kept

-- a log of these records, or of those that are left
abbrev pub IsLogOrFewer : ℕ → Origin → Head → List (List ℕ) → Files → Type 0
IsLogOrFewer id from head records files = IsLog id files from head records ⊎ IsShortened id from head records files

-- Where the answer is true, the records of the first file are gone, which all stand below the head's place, and the others are held.
-- Where it is false, the log holds what it held
abbrev pub Retires : {D E : Type 0} → (D → Files) → (D → Files → Type 0) → LogState D → LogState D → Result Bool E → Type 0
Retires seen may_leave old new result =
    (from : Origin) (head : Head) (these : List (List ℕ)) → Holds seen may_leave old from head these
    → IfOk result (λ done. MatchBool done (HasRetired seen may_leave new from head these) (Holds seen may_leave new from head these))

-- a crash at any moment since then leaves the log as it was, or without the records of the first file
abbrev pub LeavesFewer : {D : Type 0} → (D → Files) → (D → Files → Type 0) → (D → ℕ) → (D → ℕ → Files → Type 0) → LogState D → LogState D → Type 0
LeavesFewer seen may_leave moment left_since old new =
    (from : Origin) (head : Head) (these : List (List ℕ)) → Holds seen may_leave old from head these
    → LeavesOnly moment left_since old.segment.disk new.segment.disk (IsLogOrFewer old.id from head these)
