-- What words spell.
use Rattle.std.specs.Prelude.{ℕ, ◌+◌, ◌-◌, ◌*◌, Bool, false, not, ◌&&◌, ◌||◌, ◌==◌, nat_le, if◌then◌else◌, List, [], ◌∷◌, length, Option, Some, None, codes, bytes_eq}
use Rattle.std.specs.List.{list_all, before_first, after_first}
use Rattle.std.specs.Option.{option_and_then, option_map}
use Rattle.gw_er7.specs.Names as Names
use Rattle.gw_lines.specs.Words.{Word, Plain, Quoted}

-- the bytes of a word that isn't quoted
abbrev pub plain_bytes : Word → Option (List ℕ)
plain_bytes (Plain bytes) = Some bytes
plain_bytes (Quoted bytes) = None

abbrev pub is_digit : ℕ → Bool
is_digit b = nat_le 48 b && nat_le b 57

abbrev pub is_upper : ℕ → Bool
is_upper b = nat_le 65 b && nat_le b 90

-- a letter, a digit or _
abbrev pub is_name_byte : ℕ → Bool
is_name_byte b = is_digit b || is_upper b || (nat_le 97 b && nat_le b 122) || b == 95

-- 1 to 40 letters, digits or _
abbrev pub is_name : List ℕ → Bool
is_name bytes = nat_le 1 (length bytes) && nat_le (length bytes) 40 && list_all is_name_byte bytes

abbrev pub name : Word → Option (List ℕ)
name word = option_and_then (λ bytes. if is_name bytes then Some bytes else None) (plain_bytes word)

-- the name of a segment
abbrev pub segment_word : Word → Option (List ℕ)
segment_word word = option_and_then (λ bytes. if Names.is_name bytes then Some bytes else None) (plain_bytes word)

-- the value of these decimal digits behind those of n
abbrev pub decimal : ℕ → List ℕ → ℕ
decimal n [] = n
decimal n (d ∷ digits) = decimal (n * 10 + (d - 48)) digits

-- digits, the first of them 0 only where it is alone
abbrev pub is_decimal : List ℕ → Bool
is_decimal [] = false
is_decimal (d ∷ []) = is_digit d
is_decimal (d ∷ e ∷ digits) = is_digit d && not (d == 48) && list_all is_digit (e ∷ digits)

-- the number, from low to high, that the bytes spell
abbrev pub number : ℕ → ℕ → List ℕ → Option ℕ
number low high bytes =
    if is_decimal bytes && nat_le low (decimal 0 bytes) && nat_le (decimal 0 bytes) high then Some (decimal 0 bytes) else None

-- these bytes without quotes
abbrev pub is_keyword : List ℕ → Word → Bool
is_keyword keyword (Plain bytes) = bytes_eq bytes keyword
is_keyword keyword (Quoted bytes) = false

-- the number that a word spells
abbrev pub number_word : ℕ → ℕ → Word → Option ℕ
number_word low high word = option_and_then (number low high) (plain_bytes word)

abbrev pub is_dot : ℕ → Bool
is_dot b = b == 46

-- a number up to 9999, or * for none
abbrev pub greatest : List ℕ → Option (Option ℕ)
greatest bytes = if bytes_eq bytes (codes "*") then Some None else option_map Some (number 0 9999 bytes)

-- what follows the first of two dots
abbrev pub behind_dot : List ℕ → Option (Option ℕ)
behind_dot [] = None
behind_dot (b ∷ bytes) = if is_dot b then greatest bytes else None

-- a..b or a..*
abbrev pub range : List ℕ → Option (ℕ × Option ℕ)
range bytes = option_and_then (λ low. option_map (λ high. (low, high)) (behind_dot (after_first is_dot bytes))) (number 0 9999 (before_first is_dot bytes))

abbrev pub range_word : Word → Option (ℕ × Option ℕ)
range_word word = option_and_then range (plain_bytes word)
