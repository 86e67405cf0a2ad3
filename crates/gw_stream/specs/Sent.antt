-- What a device was sent of the bytes that were meant for it.
use Rattle.std.specs.Prelude.{ℕ, List, Option, ◌++◌, ◌≡◌, ◌≤◌, length, take}
use Rattle.std.specs.Io.KnownBytes.{Appends}

-- the bytes begin with these
abbrev pub BeginsWith : List ℕ → List ℕ → Type 0
BeginsWith bytes front = (rest : List ℕ) × (bytes ≡ front ++ rest)

-- known bytes grew by a beginning of these
abbrev pub SendsPart : Option (List ℕ) → Option (List ℕ) → List ℕ → Type 0
SendsPart old new bytes = (sent : List ℕ) × Appends old new sent × BeginsWith bytes sent

-- so far this many of the bytes were sent
pub record Sending (old new : Option (List ℕ)) (bytes : List ℕ) (sent turn : ℕ) : Type 0 where
  pub within : sent ≤ length bytes
  pub moves : turn ≤ sent
  pub appends : Appends old new (take sent bytes)
