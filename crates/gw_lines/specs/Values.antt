-- Values of a line: canonical texts that are not empty (HL7 v2.5.1 chapter 2, 2.7 "Use of escape sequences in text fields").
use Rattle.std.specs.Prelude.{ℕ, Bool, false, if◌then◌else◌, List, [], ◌∷◌, Option, Some, None}
use Rattle.gw_er7.specs.Text.{is_canonical}
use Rattle.gw_lines.specs.Words.{Word, Plain, Quoted}

abbrev pub is_value : List ℕ → Bool
is_value [] = false
is_value (b ∷ bytes) = is_canonical (b ∷ bytes)

abbrev pub bytes_of : Word → List ℕ
bytes_of (Plain bytes) = bytes
bytes_of (Quoted bytes) = bytes

-- the value that a word is
abbrev pub value_bytes : Word → Option (List ℕ)
value_bytes w = if is_value (bytes_of w) then Some (bytes_of w) else None
