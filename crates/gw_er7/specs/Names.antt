-- Names of segments (HL7 v2.5.1 chapter 2, 2.5.2 "Segments and segment groups").
use Rattle.std.specs.Prelude.{◌≡◌, ℕ, Bool, true, ◌&&◌, ◌||◌, ◌==◌, nat_le, List, [], ◌∷◌, length, slice_index}

-- A to Z
abbrev pub is_upper : ℕ → Bool
is_upper b = nat_le 65 b && nat_le b 90

-- 0 to 9
abbrev pub is_digit : ℕ → Bool
is_digit b = nat_le 48 b && nat_le b 57

-- A to Z or 0 to 9
abbrev pub is_name_byte : ℕ → Bool
is_name_byte b = is_upper b || is_digit b

-- a line that begins with a name of three bytes, the first A to Z
abbrev pub is_named : List ℕ → Bool
is_named line = nat_le 3 (length line) && (is_upper (slice_index line 0) && (is_name_byte (slice_index line 1) && is_name_byte (slice_index line 2)))

-- a line that begins with MSH
abbrev pub is_header : List ℕ → Bool
is_header line = nat_le 3 (length line) && (slice_index line 0 == 77 && (slice_index line 1 == 83 && slice_index line 2 == 72))

-- A to Z, then two of A to Z and 0 to 9
abbrev pub is_name : List ℕ → Bool
is_name name = length name == 3 && is_named name

-- the same, as a fact
pub record IsName (name : List ℕ) : Type 0 where
  pub three : length name ≡ 3
  pub lawful : is_named name ≡ true

-- MSH
abbrev pub header_name : List ℕ
header_name = 77 ∷ 83 ∷ 72 ∷ []
