-- Values that are found by their hash.
use Rattle.std.specs.Prelude.{◌≡◌, ℕ, ◌||◌, List, bytes_eq}
use Rattle.gw_profile.specs.Fault.{is_among}

-- what is found are these values
abbrev pub AreFound : List (List ℕ) → List (List ℕ) → Type 0
AreFound values found = (text : List ℕ) → is_among text found ≡ is_among text values

-- one value more is found
abbrev pub IsAdded : List ℕ → List (List ℕ) → List (List ℕ) → Type 0
IsAdded value old new = (text : List ℕ) → is_among text new ≡ (is_among text old || bytes_eq text value)
