-- What is found at a line that fits no pattern of its language.
use Rattle.std.specs.Prelude.{ℕ, ◌-◌, if◌then◌else◌, List, [], ◌∷◌, Option, slice_get}
use Rattle.std.specs.List.{before_first}
use Rattle.std.specs.Option.{option_map}
use Rattle.gw_lines.specs.Words.{lines, without_last, is_blank}

-- the first word of a line as it is written, whether the line is lawful or not
abbrev pub keyword_of : List ℕ → List ℕ
keyword_of [] = []
keyword_of (b ∷ bytes) = if is_blank b then keyword_of bytes else before_first is_blank (b ∷ bytes)

-- the line of this number, from 1, one CR at its end set aside
abbrev pub line_at : List ℕ → ℕ → Option (List ℕ)
line_at text at = option_map (without_last 13) (slice_get (lines text) (at - 1))
