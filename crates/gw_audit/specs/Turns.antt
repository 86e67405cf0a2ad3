-- Numbers at which something turns.
use Rattle.std.specs.Prelude.{◌≡◌, ℕ, ◌+◌, ◌%◌, ◌<◌, ◌≤◌, ◌==◌, nat_le, if◌then◌else◌, Bool, true, false, List, length, get_or, Option, None, Some}
use Rattle.std.specs.List.Sorted.{IsStrictlyIncreasing}

-- just i of the rising numbers are at most k
pub record Passes (ats : List ℕ) (k i : ℕ) : Type 0 where
  pub few : i ≤ length ats
  pub before : (p : ℕ) → p < i → get_or ats p 0 ≤ k
  pub after : (p : ℕ) → i ≤ p → p < length ats → k < get_or ats p 0

-- wherever just i of the rising numbers are at most k, this is so of both
pub record Tracks (So : ℕ → ℕ → Type 0) (ats : List ℕ) : Type 0 where
  pub rising : IsStrictlyIncreasing ats
  pub tells : (k i : ℕ) → Passes ats k i → So k i

-- the same up to m, which none of the numbers exceeds
pub record TracksTo (So : ℕ → ℕ → Type 0) (m : ℕ) (ats : List ℕ) : Type 0 where
  pub rising : IsStrictlyIncreasing ats
  pub below : (p : ℕ) → p < length ats → get_or ats p 0 ≤ m
  pub tells : (k i : ℕ) → k ≤ m → Passes ats k i → So k i

abbrev pub is_even : ℕ → Bool
is_even n = n % 2 == 0

-- a test holds at first, and turns at each of the numbers
abbrev pub TurnsAt : (ℕ → Bool) → List ℕ → Type 0
TurnsAt test ats = Tracks (λ k i. test k ≡ is_even i) ats

abbrev pub TurnsTo : (ℕ → Bool) → ℕ → List ℕ → Type 0
TurnsTo test m ats = TracksTo (λ k i. test k ≡ is_even i) m ats

-- a test holds from the v-th of the numbers to the next, and from 0 where v is 0
abbrev pub HoldsFrom : (ℕ → Bool) → ℕ → List ℕ → Type 0
HoldsFrom test v ats = Tracks (λ k i. test k ≡ (i == v)) ats

-- up to m just as many of the numbers are passed as f counts
abbrev pub CountsTo : (ℕ → ℕ) → ℕ → List ℕ → Type 0
CountsTo f m ats = TracksTo (λ k i. f k ≡ i) m ats

-- at this number a test holds, or doesn't, and this is noted
abbrev pub TurnsOn : ℕ → Bool → List ℕ → List ℕ → Type 0
TurnsOn at holds old new = (test : ℕ → Bool) (m : ℕ) → at ≡ m + 1 → test at ≡ holds → TurnsTo test m old → TurnsTo test at new

-- at this number one more is counted, or none, and this is noted
abbrev pub CountsOn : ℕ → Bool → List ℕ → List ℕ → Type 0
CountsOn at more old new = (f : ℕ → ℕ) (m : ℕ) → at ≡ m + 1 → f at ≡ f m + (if more then 1 else 0) → CountsTo f m old → CountsTo f at new

-- k is the first number, from low on, at which a test holds
pub record First (low : ℕ) (test : ℕ → Bool) (k : ℕ) : Type 0 where
  pub above : low ≤ k
  pub holds : test k ≡ true
  pub before : (p : ℕ) → low ≤ p → p < k → test p ≡ false

-- this is the first such number, if there is one
abbrev pub IsFirstFrom : ℕ → (ℕ → Bool) → Option ℕ → Type 0
IsFirstFrom low test None = (k : ℕ) → low ≤ k → test k ≡ false
IsFirstFrom low test (Some k) = First low test k

-- whether there is one up to high
abbrev pub is_within : ℕ → Option ℕ → Bool
is_within high None = false
is_within high (Some k) = nat_le k high
