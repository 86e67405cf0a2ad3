-- What a forwarder sends over all runs of a gateway.
use Rattle.std.specs.Prelude.{◌≡◌, ◌⊎◌, ℕ, List, [], ◌∷◌, ◌++◌, Some, slice_get}
use mathlib.Core.List.{IsPrefix}
use Rattle.gw_due.specs.Events.{Event}
use Rattle.gw_due.specs.Due.{passed, left}

-- In a run, whose log was the old one at its start, and is the new one at the next start, a forwarder sent what was due at these places:
-- those that the receiver is done with now, and perhaps the next one
pub record IsRun (r : ℕ) (old new : List Event) (sent : List ℕ) : Type 0 where
  pub more : IsPrefix old new
  pub taken : List ℕ
  pub done : passed r new ≡ passed r old ++ taken
  pub sends : (sent ≡ taken) ⊎ ((next : ℕ) × (slice_get (left r new) 0 ≡ Some next) × (sent ≡ taken ++ next ∷ []))

-- runs, one after another, and what was sent in each
pub data Runs (r : ℕ) : List Event → List (List ℕ) → List Event → Type 0 where
  no_run : (log : List Event) → Runs r log [] log
  one_run : (old mid new : List Event) (sent : List ℕ) (all : List (List ℕ)) → IsRun r old mid sent → Runs r mid all new → Runs r old (sent ∷ all) new

-- What was sent in each run covers what was due: in order, none passed over, each once, but for the last of a run, with which the next one begins again
pub data Covers : List ℕ → List (List ℕ) → Type 0 where
  nothing : (rest : List ℕ) → Covers rest []
  whole : (taken rest : List ℕ) (all : List (List ℕ)) → Covers rest all → Covers (taken ++ rest) (taken ∷ all)
  again : (taken rest : List ℕ) (next : ℕ) (all : List (List ℕ)) → Covers (next ∷ rest) all → Covers (taken ++ next ∷ rest) ((taken ++ next ∷ []) ∷ all)
