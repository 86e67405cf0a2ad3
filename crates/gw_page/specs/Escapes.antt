-- Texts within HTML (WHATWG HTML, 13.1.4 "Character references"), and within a label of Prometheus' text format (version 0.0.4).
use Rattle.std.specs.Prelude.{ℕ, ◌==◌, List, [], ◌∷◌, codes, flat_map, if◌then◌else◌}

-- a byte that means something in HTML is a character reference
abbrev pub escape : ℕ → List ℕ
escape b = if b == 38 then codes "&amp;" else if b == 60 then codes "&lt;" else if b == 62 then codes "&gt;"
    else if b == 34 then codes "&quot;" else if b == 39 then codes "&#39;" else b ∷ []

abbrev pub escaped : List ℕ → List ℕ
escaped text = flat_map escape text

-- in a label's value `\`, `"` and a line's end have a `\` before them
abbrev pub quote : ℕ → List ℕ
quote b = if b == 92 then codes "\\\\" else if b == 34 then codes "\\\"" else if b == 10 then codes "\\n" else b ∷ []

abbrev pub quoted : List ℕ → List ℕ
quoted text = flat_map quote text
