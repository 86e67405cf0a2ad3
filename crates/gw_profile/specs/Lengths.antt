-- What lengths count (HL7 v2.5.1 chapter 2, 2.12: length). The count is the profile's own.
use Rattle.std.specs.Prelude.{ℕ, Bool, not, ◌&&◌, nat_le, List, length, count_by}
use Rattle.gw_profile.specs.declared.shape.Count.{Count}
use Rattle.gw_profile.specs.declared.shape.Count.TheVariants.{Octets, Characters}
use Rattle.gw_profile.specs.Shapes.{ProfileValue}

-- an octet begins a character unless it is one of 0x80 to 0xBF, which go on with one in UTF-8
abbrev pub begins_character : ℕ → Bool
begins_character octet = not (nat_le 128 octet && nat_le octet 191)

-- how long a text is
abbrev pub measure : Count → List ℕ → ℕ
measure Octets text = length text
measure Characters text = count_by begins_character text

-- what the lengths of a profile count
abbrev pub len_count : ProfileValue → Count
len_count profile = profile.count
