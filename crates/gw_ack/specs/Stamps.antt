-- The time stamp of an answer: YYYYMMDDHHMMSS (HL7 v2.5.1 chapter 2A, 2.A.22 "DTM").
use Rattle.std.specs.Prelude.{◌≡◌, ℕ, ◌≤◌, List, length, slice_index, EachIndex}

-- 0 to 9
abbrev pub IsDigit : ℕ → Type 0
IsDigit b = (48 ≤ b) × (b ≤ 57)

-- fourteen digits
pub record IsStamp (text : List ℕ) : Type 0 where
  pub fourteen : length text ≡ 14
  pub digits : EachIndex text (λ k. IsDigit (slice_index text k))
