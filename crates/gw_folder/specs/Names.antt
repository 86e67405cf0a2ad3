-- The names of a log's files.
use Rattle.std.specs.Prelude.{ℕ, zero, suc, ◌+◌, ◌/◌, ◌%◌, List, [], ◌∷◌, ◌++◌}

-- the last digits of a number, of this count, in ASCII
abbrev pub digits : (width n : ℕ) → List ℕ
digits zero n = []
digits (suc width) n = digits width (n / 10) ++ (48 + n % 10) ∷ []

-- the number in twenty digits, and `.segment`
abbrev pub named : ℕ → List ℕ
named n = digits 20 n ++ 46 ∷ 115 ∷ 101 ∷ 103 ∷ 109 ∷ 101 ∷ 110 ∷ 116 ∷ []
