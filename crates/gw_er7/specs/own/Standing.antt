-- Where texts stand behind given numbers. The look-ups' own words.
use Rattle.std.specs.Prelude.{ℕ, zero, suc, List, [], ◌∷◌, ◌++◌}
use Rattle.gw_er7.specs.Message.{Texts}
use Rattle.gw_er7.specs.View.{StandsAt}

-- a text stands at a key that begins with these numbers and has this many more
abbrev pub StandsUnder : Texts → ℕ → List ℕ → Type 0
StandsUnder m zero key = StandsAt m key
StandsUnder m (suc more) key = (n : ℕ) × StandsUnder m more (key ++ n ∷ [])
