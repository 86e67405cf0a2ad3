-- What workers note.
use Rattle.std.specs.Prelude.{◌≡◌, ℕ, ◌+◌, Bool, true, false, List, [], ◌∷◌, ◌++◌, Option, None, Some}
use Rattle.gw_gate.specs.Journal.{WasTaken, WasKept}
use Rattle.gw_gate.specs.Parts.{TranslatedSeen}
use Rattle.gw_stream.specs.declared.counts.Counts.{Counts}
use Rattle.gw_stream.specs.Counted.{nothing}
use Rattle.gw_crew.specs.Notes.{NoteSeen, WasFull, WasIdle, Added}

-- The notes of a worker's rounds, and how many results were kept: a job is taken, and its result kept or dropped; or there was no job, and the worker waited.
pub data Rounds : List NoteSeen → ℕ → Type 0 where
  no_round : Rounds [] 0
  kept : (notes : List NoteSeen) (k at later n : ℕ) (t : TranslatedSeen) → Rounds notes k
      → Rounds (notes ++ Added at (WasTaken n t.receiver) ∷ Added later (WasKept n t) ∷ []) (k + 1)
  dropped : (notes : List NoteSeen) (k at n r : ℕ) → Rounds notes k → Rounds (notes ++ Added at (WasTaken n r) ∷ []) k
  waited : (notes : List NoteSeen) (k : ℕ) → Rounds notes k → Rounds (notes ++ WasIdle ∷ []) k

-- the last notes of a worker that ends without a fault, by whether its pause was stopped
pub data Ends : Bool → List NoteSeen → Type 0 where
  idle : Ends false (WasIdle ∷ [])
  full : Ends false (WasFull ∷ [])
  full_in_hand : (at n r : ℕ) → Ends false (Added at (WasTaken n r) ∷ WasFull ∷ [])
  stopped : (at n r : ℕ) → Ends true (Added at (WasTaken n r) ∷ [])

-- the last notes of a worker that ends with a fault, by the job that it had
pub data InHand : Option (ℕ × ℕ) → List NoteSeen → Type 0 where
  empty : InHand None []
  job : (at n r : ℕ) → InHand (Some (n, r)) (Added at (WasTaken n r) ∷ [])

-- only rounds were noted
pub record Worked (old new : List NoteSeen) (k : ℕ) : Type 0 where
  pub notes : List NoteSeen
  pub rounds : Rounds notes k
  pub noted : new ≡ old ++ notes

-- A worker's rounds and its end were noted, and it counts what was kept.
pub record Works (stopped : Bool) (old new : List NoteSeen) (counts : Counts) : Type 0 where
  pub mid : List NoteSeen
  pub kept : ℕ
  pub worked : Worked old mid kept
  pub last : List NoteSeen
  pub ends : Ends stopped last
  pub noted : new ≡ mid ++ last
  pub counted : counts ≡ record nothing { put = kept }

-- A worker's rounds were noted, and the job that it had when the fault came.
pub record Breaks (job : Option (ℕ × ℕ)) (old new : List NoteSeen) : Type 0 where
  pub mid : List NoteSeen
  pub kept : ℕ
  pub worked : Worked old mid kept
  pub last : List NoteSeen
  pub in_hand : InHand job last
  pub noted : new ≡ mid ++ last
