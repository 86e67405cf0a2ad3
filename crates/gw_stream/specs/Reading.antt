-- How often a source was read.
use Rattle.std.specs.Prelude.{◌≡◌, ℕ, ◌+◌, ◌<◌, ◌≤◌, ◌^◌, List, length, Option, IfSome}

-- this number of reads was made between two counts, as far as a count of 64 bits can say
abbrev pub ReadTimes : ℕ → ℕ → ℕ → Type 0
ReadTimes times before after = before + times < 2 ^ 64 → after ≡ before + times

-- at most this number of reads was made between two counts, as far as a count of 64 bits can say
abbrev pub ReadUpTo : ℕ → ℕ → ℕ → Type 0
ReadUpTo times before after = before + times < 2 ^ 64 → after ≤ before + times

-- between two counts a source that had this left was read 1,000,000 times, and each read gave a byte
pub record ReadsTooOften (stream : Option (List ℕ)) (before after : ℕ) : Type 0 where
  pub counted : ReadTimes 1000000 before after
  pub many : IfSome stream (λ bytes. 1000000 ≤ length bytes)
