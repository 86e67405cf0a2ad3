-- How far a search has come.
use Rattle.std.specs.Prelude.{◌≡◌, ℕ, ◌<◌, Bool, false, List, get_or}

-- none of the first bytes passes the test
abbrev pub FailsTo : (ℕ → Bool) → List ℕ → ℕ → Type 0
FailsTo test bytes count = (i : ℕ) → i < count → test (get_or bytes i 0) ≡ false
