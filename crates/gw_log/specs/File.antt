-- What a file of a log has: the records that are synced.
use Rattle.std.specs.Prelude.{◌≡◌, ◌≢◌, ◌⊎◌, ⊤, ℕ, zero, suc, ◌<◌, ◌≤◌, ◌^◌, ◌+◌, ◌-◌, List, [], ◌∷◌, ◌++◌, length, drop, Result, IsErrOf}
use Rattle.std.specs.Int.{w32, w64, to_be_bytes}
use Rattle.std.specs.List.{AllByRecursion}
use Rattle.sha2.specs.Sha256.{sha256}
use Rattle.gw_log.specs.declared.fault.LogFault.{LogFault}
use Rattle.gw_log.specs.declared.fault.LogFault.TheVariants.{Damaged}
use Rattle.gw_log.specs.Disk.{Files, Changes}

-- a record behind its digest (SHA-256, FIPS 180-4)
abbrev pub item : List ℕ → List ℕ
item bytes = sha256 bytes ++ bytes

-- how many of these bytes are not 0
abbrev pub nonzero : List ℕ → ℕ
nonzero [] = 0
nonzero (zero ∷ bytes) = nonzero bytes
nonzero (suc n ∷ bytes) = suc (nonzero bytes)

-- an item behind its length in four bytes, the high one first
abbrev pub sized : List ℕ → List ℕ
sized item = to_be_bytes w32 (length item) ++ item

-- Behind a count in eight bytes: 2^64 - 1, less how many bytes of the sized item are not 0. So no byte can be lost unseen:
-- one that is lost is 0, and lowers what is counted. One of the count's own lowers the count, which makes what it asks for more
abbrev pub counted : List ℕ → List ℕ
counted item = to_be_bytes w64 (2 ^ 64 - 1 - nonzero (sized item)) ++ sized item

-- what stands behind a record's gate
abbrev pub body : List ℕ → List ℕ
body bytes = counted (item bytes)

-- the records, each behind an open gate, which is a byte of 1
abbrev pub blocks : List (List ℕ) → List ℕ
blocks [] = []
blocks (bytes ∷ records) = 1 ∷ body bytes ++ blocks records

-- each length fits its four bytes
abbrev pub AreShort : List (List ℕ) → Type 0
AreShort records = AllByRecursion (λ bytes. length (item bytes) < 2 ^ 32) records

-- no record has more than 2,147,483,648 bytes
abbrev pub AreInLimit : List (List ℕ) → Type 0
AreInLimit records = AllByRecursion (λ bytes. length bytes ≤ 2 ^ 31) records

-- a batch behind its own gate: its records, and this gate at its end
abbrev pub batch : (close : ℕ) → List (List ℕ) → List ℕ
batch close records = drop 1 (blocks records ++ close ∷ [])

-- These bytes begin with a whole batch: items whose counts are right, each behind an open gate but for the first, and a gate of 2 behind the last
pub data IsWhole : List ℕ → Type 0 where
  ends_here : (item more : List ℕ) → length item < 2 ^ 32 → IsWhole (counted item ++ 2 ∷ more)
  goes_on : (item more : List ℕ) → length item < 2 ^ 32 → IsWhole more → IsWhole (counted item ++ 1 ∷ more)

-- What a crash may leave of a write that was not synced, and no damage: nothing, a lone gate, or a gate that isn't open and no whole batch behind it
abbrev pub IsUnsynced : List ℕ → Type 0
IsUnsynced [] = ⊤
IsUnsynced (gate ∷ []) = ⊤
IsUnsynced (gate ∷ byte ∷ more) = (gate ≢ 1) × (IsWhole (byte ∷ more) → ⊥)

-- a whole batch of these records behind a gate that isn't open
pub record IsShut (records : List (List ℕ)) (end : List ℕ) : Type 0 where
  pub gate : ℕ
  pub more : List ℕ
  pub not_open : gate ≢ 1
  pub whole : end ≡ gate ∷ batch 2 records ++ more
  pub some : 1 ≤ length records
  pub short : AreShort records

-- the end of a file: what wasn't synced; or the last batch, whose gate isn't open yet, and anything
abbrev pub IsEnd : (last : List (List ℕ)) → List ℕ → Type 0
IsEnd last end = ((last ≡ []) × IsUnsynced end) ⊎ IsShut last end

-- The file is these records: those behind open gates, and those of the last batch, if it is whole behind a gate that isn't open
pub record Has (records : List (List ℕ)) (file : List ℕ) : Type 0 where
  pub front : List (List ℕ)
  pub last : List (List ℕ)
  pub end : List ℕ
  pub all : records ≡ front ++ last
  pub whole : file ≡ blocks front ++ end
  pub short : AreShort front
  pub ends : IsEnd last end

-- behind no gate at the front of these bytes stands a record
abbrev pub HasNoRecord : List ℕ → Type 0
HasNoRecord bytes = (gate : ℕ) (r more : List ℕ) → length (item r) < 2 ^ 32 → bytes ≡ gate ∷ body r ++ more → ⊥

-- Damage at this offset: behind records stands what no crash leaves. It is no end of a file, and no record behind an open gate.
-- So it is where a digest is not that of the bytes behind it, or, behind an open gate, a count is not that of what is there
pub record IsDamagedAt (at : ℕ) (file : List ℕ) : Type 0 where
  pub records : List (List ℕ)
  pub rest : List ℕ
  pub whole : file ≡ blocks records ++ rest
  pub short : AreShort records
  pub here : at ≡ length (blocks records)
  pub no_end : (last : List (List ℕ)) → IsEnd last rest → ⊥
  pub no_record : (r more : List ℕ) → length (item r) < 2 ^ 32 → rest ≡ 1 ∷ body r ++ more → ⊥

-- a record begins at this offset of the file, behind some gate
pub record HasRecordAt (at : ℕ) (bytes file : List ℕ) : Type 0 where
  pub gate : ℕ
  pub whole : drop at file ≡ gate ∷ body bytes ++ drop (at + length (1 ∷ body bytes)) file
  pub short : length (item bytes) < 2 ^ 32

-- where the answer is `Damaged`, this holds
abbrev pub OnDamaged : {T : Type 0} → Result T LogFault → Type 0 → Type 0
OnDamaged result P = (segment at : ℕ) → IsErrOf result (Damaged segment at) → P

-- the file has these records or those
abbrev pub HasEither : List (List ℕ) → List (List ℕ) → List ℕ → Type 0
HasEither these those c = Has these c ⊎ Has those c

-- the file has these records; or it is all of them, each behind an open gate, and ended
abbrev pub HasOrIs : List (List ℕ) → List (List ℕ) → List ℕ → Type 0
HasOrIs these all c = Has these c ⊎ (c ≡ blocks all ++ 0 ∷ [])

-- a file has what the other has
abbrev pub HasAs : List ℕ → List ℕ → Type 0
HasAs file c = (records : List (List ℕ)) → Has records file → Has records c

-- the file of this number has what it had, and the others are as they were
abbrev pub KeepsRecords : ℕ → Files → Files → Type 0
KeepsRecords number files = Changes number (HasAs (files number)) files
