-- What a disk is: a folder of numbered files, what its calls do to them, and what a crash may leave between two syncs.
use Rattle.std.specs.Prelude.{◌≡◌, ◌≢◌, ◌⊎◌, ⊤, ◌<◌, ◌≤◌, ◌+◌, ℕ, min, List, [], ◌∷◌, ◌++◌, length, take, drop, Result, IsErrOf}
use Rattle.gw_log.specs.declared.disk.DiskFault.{DiskFault}
use Rattle.gw_log.specs.declared.disk.DiskFault.TheVariants.{Failed}

-- The bytes of each file, by its number. A number without a file counts as one whose file has no byte.
abbrev pub Files : Type 0
Files = ℕ → List ℕ

-- the file of this number is one with P, and the others are as they were
pub record Changes (number : ℕ) (P : List ℕ → Type 0) (old new : Files) : Type 0 where
  pub here : P (new number)
  pub others : (other : ℕ) → other ≢ number → new other ≡ old other

-- new is old with these bytes at this offset
abbrev pub IsWritten : ℕ → List ℕ → List ℕ → List ℕ → Type 0
IsWritten at bytes old new = new ≡ take at old ++ bytes ++ drop (at + length bytes) old

-- Bytes over which these were written, and what a crash left: each byte as it was, or as it was written. Past the old end each is missing, 0, or as written
abbrev pub IsMixed : (old bytes new : List ℕ) → Type 0
IsMixed old [] new = new ≡ old
IsMixed [] (byte ∷ bytes) [] = ⊤
IsMixed [] (byte ∷ bytes) (x ∷ new) = ((x ≡ 0) ⊎ (x ≡ byte)) × IsMixed [] bytes new
IsMixed (o ∷ old) (byte ∷ bytes) [] = ⊥
IsMixed (o ∷ old) (byte ∷ bytes) (x ∷ new) = ((x ≡ o) ⊎ (x ≡ byte)) × IsMixed old bytes new

-- A torn write of these bytes, or one that did not happen
pub record Torn (at : ℕ) (bytes old new : List ℕ) : Type 0 where
  pub before : take at new ≡ take at old
  pub mixed : IsMixed (drop at old) bytes (drop at new)

-- a cut to n bytes that a crash may stop, or one that did not happen: some length between
pub record Cut (n : ℕ) (old new : List ℕ) : Type 0 where
  pub no_shorter : min n (length old) ≤ length new
  pub front : take (length new) old ≡ new

-- a file that was being removed: it is there, or not
abbrev pub IsGone : List ℕ → List ℕ → Type 0
IsGone old new = (new ≡ old) ⊎ (new ≡ [])

-- one of these outcomes of a crash, after a step on one file
pub record After (number : ℕ) (step : List ℕ → List ℕ → Type 0) (outcomes : Files → Type 0) (c : Files) : Type 0 where
  pub was : Files
  pub could : outcomes was
  pub moves : Changes number (step (was number)) was c

-- each new outcome of a crash is an old outcome after a step on one file
abbrev pub Follows : ℕ → (List ℕ → List ℕ → Type 0) → (Files → Type 0) → (Files → Type 0) → Type 0
Follows number step old new = (c : Files) → new c → After number step old c

-- whatever crash comes, it leaves these files as they are
abbrev pub Only : Files → (Files → Type 0) → Type 0
Only files outcomes = (c : Files) → outcomes c → (number : ℕ) → c number ≡ files number

-- Time goes on: a crash since t might have left what it might have left before, or what it may leave now
pub record Elapses {D : Type 0} (moment : D → ℕ) (left_since : D → ℕ → Files → Type 0) (may_leave : D → Files → Type 0) (old new : D) : Type 0 where
  pub later : moment old ≤ moment new
  pub nothing_else : (t : ℕ) (c : Files) → t ≤ moment old → left_since new t c → left_since old t c ⊎ may_leave new c

-- A crash at any moment since old leaves files that have P
pub record LeavesOnly {D : Type 0} (moment : D → ℕ) (left_since : D → ℕ → Files → Type 0) (old new : D) (P : Files → Type 0) : Type 0 where
  pub later : moment old ≤ moment new
  pub each : (c : Files) → left_since new (moment old) c → P c
  -- for a run that began earlier
  pub before : (t : ℕ) (c : Files) → t ≤ moment old → left_since new t c → left_since old t c ⊎ P c

-- A crash at any moment since old leaves the file of this number as P says, and the others as they were
abbrev pub LeavesChanged : {D : Type 0} → (D → Files) → (D → ℕ) → (D → ℕ → Files → Type 0) → (old new : D) → ℕ → (List ℕ → Type 0) → Type 0
LeavesChanged seen moment left_since old new number P = LeavesOnly moment left_since old new (Changes number P (seen old))

-- the same where old's files are all on the disk, whatever crash comes
abbrev pub LeavesOf : {D : Type 0} → (D → Files) → (D → Files → Type 0) → (D → ℕ) → (D → ℕ → Files → Type 0) → (old new : D) → ℕ → (List ℕ → Type 0) → Type 0
LeavesOf seen may_leave moment left_since old new number P = Only (seen old) (may_leave old) → LeavesChanged seen moment left_since old new number P

-- no file has a byte but from the first number to the last
abbrev pub AreWithin : (first last : ℕ) → Files → Type 0
AreWithin first last files = (number : ℕ) → files number ≢ [] → (first ≤ number) × (number ≤ last)

-- the least and the greatest number of a file that has a byte; where there is none, the first is above the last
pub record AreEnds (first last : ℕ) (files : Files) : Type 0 where
  pub within : AreWithin first last files
  pub low : first ≤ last → files first ≢ []
  pub high : first ≤ last → files last ≢ []

-- `Failed` is reported only where the disk has failed since
pub record HasCause {T : Type 0} (before now : ℕ) (result : Result T DiskFault) : Type 0 where
  pub later : before ≤ now
  pub failed : IsErrOf result Failed → before < now
