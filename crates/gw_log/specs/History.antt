-- What was asked of a folder, with its answers, the last first: what its files are then, what a crash may leave, and whether the answers were true.
use Rattle.std.specs.Prelude.{◌≡◌, ◌⊎◌, ⊤, ℕ, zero, suc, ◌+◌, ◌≤◌, nat_eq, if◌then◌else◌, List, [], ◌∷◌, ◌++◌, length, take, drop, slice_index}
use mathlib.Core.Logic.{inl, inr}
use Rattle.std.proofs.Common.{arith}
use Rattle.gw_log.specs.Disk.{Files, Torn, Cut, IsGone, After, AreEnds}

pub data Event : Type 0 where
  Ends : (first last : ℕ) → Event
  Sized : (number size : ℕ) → Event
  Read : (number at len : ℕ) (bytes : List ℕ) → Event
  Wrote : (number at : ℕ) (bytes : List ℕ) → Event
  CutTo : (number len : ℕ) → Event
  Synced : (number : ℕ) → Event
  Removed : (number : ℕ) → Event
  Failed : Event

-- an event, by the number of its kind
abbrev pub event : (kind number at len : ℕ) → List ℕ → Event
event zero number at len bytes = Failed
event (suc zero) number at len bytes = Ends number at
event (suc (suc zero)) number at len bytes = Sized number at
event (suc (suc (suc zero))) number at len bytes = Read number at len bytes
event (suc (suc (suc (suc zero)))) number at len bytes = Wrote number at bytes
event (suc (suc (suc (suc (suc zero))))) number at len bytes = CutTo number at
event (suc (suc (suc (suc (suc (suc zero)))))) number at len bytes = Synced number
event (suc (suc (suc (suc (suc (suc (suc more))))))) number at len bytes = Removed number

abbrev pub event_of : List ℕ → List ℕ → Event
event_of numbers bytes = event (slice_index numbers 0) (slice_index numbers 1) (slice_index numbers 2) (slice_index numbers 3) bytes

-- this file lies at this number, and elsewhere what lay there
abbrev pub put : ℕ → List ℕ → Files → Files
put number file files other = if nat_eq other number then file else files other

-- what a read of each file returns, of a folder that had these at first. A call counts here also where it failed
abbrev pub seen_after : Files → List Event → Files
seen_after first [] = first
seen_after first (Wrote number at bytes ∷ before) =
    let old = seen_after first before number in
    put number (take at old ++ bytes ++ drop (at + length bytes) old) (seen_after first before)
seen_after first (CutTo number len ∷ before) = put number (take len (seen_after first before number)) (seen_after first before)
seen_after first (Ends a z ∷ before) = seen_after first before
seen_after first (Sized number size ∷ before) = seen_after first before
seen_after first (Read number at len bytes ∷ before) = seen_after first before
seen_after first (Synced number ∷ before) = seen_after first before
seen_after first (Removed number ∷ before) = put number [] (seen_after first before)
seen_after first (Failed ∷ before) = seen_after first before

-- what a crash may leave then
abbrev pub may_after : Files → List Event → Files → Type 0
may_after first [] c = (number : ℕ) → c number ≡ first number
may_after first (Wrote number at bytes ∷ before) c = After number (Torn at bytes) (may_after first before) c
may_after first (CutTo number len ∷ before) c = After number (Cut len) (may_after first before) c
may_after first (Synced number ∷ before) c = may_after first before c × (c number ≡ seen_after first before number)
may_after first (Removed number ∷ before) c = After number IsGone (may_after first before) c
may_after first (Ends a z ∷ before) c = may_after first before c
may_after first (Sized number size ∷ before) c = may_after first before c
may_after first (Read number at len bytes ∷ before) c = may_after first before c
may_after first (Failed ∷ before) c = may_after first before c

-- what a crash after some number of events from t on might have left
abbrev pub left_after : Files → List Event → ℕ → Files → Type 0
left_after first [] t c = may_after first [] c
left_after first (event ∷ before) t c = may_after first (event ∷ before) c ⊎ ((t ≤ length before) × left_after first before t c)

abbrev pub faults_in : List Event → ℕ
faults_in [] = 0
faults_in (Failed ∷ before) = faults_in before + 1
faults_in (Ends a z ∷ before) = faults_in before
faults_in (Sized number size ∷ before) = faults_in before
faults_in (Read number at len bytes ∷ before) = faults_in before
faults_in (Wrote number at bytes ∷ before) = faults_in before
faults_in (CutTo number len ∷ before) = faults_in before
faults_in (Synced number ∷ before) = faults_in before
faults_in (Removed number ∷ before) = faults_in before

-- The answers were true: what was read is what the files had
abbrev pub IsHonest : Files → List Event → Type 0
IsHonest first [] = ⊤
IsHonest first (Ends a z ∷ before) = AreEnds a z (seen_after first before) × IsHonest first before
IsHonest first (Sized number size ∷ before) = (size ≡ length (seen_after first before number)) × IsHonest first before
IsHonest first (Read number at len bytes ∷ before) = (bytes ≡ take len (drop at (seen_after first before number))) × IsHonest first before
IsHonest first (Wrote number at bytes ∷ before) = IsHonest first before
IsHonest first (CutTo number len ∷ before) = IsHonest first before
IsHonest first (Synced number ∷ before) = IsHonest first before
IsHonest first (Removed number ∷ before) = IsHonest first before
IsHonest first (Failed ∷ before) = IsHonest first before

none_later : (n : ℕ) → suc n ≤ n → ⊥
none_later n le = omega (arith, le)

-- since this moment there is no other
pub only_so : (first : Files) (events : List Event) (c : Files) → left_after first events (length events) c → may_after first events c
only_so first [] c left = left
only_so first (event ∷ before) c (inl now) = now
only_so first (event ∷ before) c (inr earlier) = absurd (none_later (length before) earlier.0)
