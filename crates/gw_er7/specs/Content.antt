-- The lines of a message's bytes, its delimiters and its segment lines (HL7 v2.5.1 chapter 2, sections 2.5.1 "Messages" and 2.5.4 "Message delimiters").
use Rattle.std.specs.Prelude.{◌≡◌, ℕ, ◌+◌, ◌<◌, ◌≤◌, Bool, not, ◌&&◌, ◌||◌, ◌==◌, nat_le, if◌then◌else◌, List, [], ◌∷◌, length, Option, None, Some, slice_index}
use Rattle.std.specs.List.{slice_split}
use Rattle.gw_er7.specs.declared.delimiters.Delimiters.{Delimiters}
use Rattle.gw_er7.specs.Names.{is_upper, is_digit, is_header, is_named}

-- ---- lines

-- CR or LF
abbrev pub is_line_end : ℕ → Bool
is_line_end b = b == 13 || b == 10

-- bytes without a line end, and the number of bytes before them
pub record Line : Type 0 where
  pub at : ℕ
  pub bytes : List ℕ

-- the parts that are not empty, where the first part begins at this place
abbrev pub placed : ℕ → List (List ℕ) → List Line
placed at [] = []
placed at ([] ∷ ps) = placed (at + 1) ps
placed at ((b ∷ bs) ∷ ps) = record { at = at; bytes = b ∷ bs } ∷ placed (at + length (b ∷ bs) + 1) ps

-- the lines of bytes that begin at this place
abbrev pub lines_from : ℕ → List ℕ → List Line
lines_from at bytes = placed at (slice_split is_line_end bytes)

-- the parts of the message bytes between line ends that are not empty
abbrev pub lines : List ℕ → List Line
lines content = lines_from 0 content

-- a line with which bytes that begin at this place begin, and the bytes behind it
pub record Begins (at : ℕ) (bytes : List ℕ) (line : Line) (behind : List ℕ) : Type 0 where
  pub lines : lines_from at bytes ≡ line ∷ lines_from (line.at + length line.bytes + 1) behind
  pub within : line.at + length line.bytes ≤ at + length bytes
  pub later : 0 < length behind → line.at + length line.bytes + 1 + length behind ≤ at + length bytes
  pub shorter : length behind < length bytes

-- 0x20 to 0xFF, TAB, CR or LF
abbrev pub is_allowed : ℕ → Bool
is_allowed b = nat_le 32 b || (b == 9 || (b == 13 || b == 10))

-- ---- the header line

-- the first line, empty where there is none
abbrev pub header_line : List Line → List ℕ
header_line [] = []
header_line (l ∷ ls) = l.bytes

-- MSH-1 and the four bytes of MSH-2, behind the name
abbrev pub delimiters_of : List ℕ → Delimiters
delimiters_of line =
    record { field = slice_index line 3; component = slice_index line 4; repetition = slice_index line 5; escape = slice_index line 6; subcomponent = slice_index line 7 }

-- a to z
abbrev pub is_lower : ℕ → Bool
is_lower b = nat_le 97 b && nat_le b 122

-- 0x21 to 0x7E, no letter, no digit and not "
abbrev pub is_delimiter : ℕ → Bool
is_delimiter b = nat_le 33 b && (nat_le b 126 && (not (is_upper b) && (not (is_lower b) && (not (is_digit b) && not (b == 34)))))

-- no two of the five are equal
abbrev pub are_distinct : Delimiters → Bool
are_distinct d =
    not (d.field == d.component) && (not (d.field == d.repetition) && (not (d.field == d.escape) && (not (d.field == d.subcomponent)
    && (not (d.component == d.repetition) && (not (d.component == d.escape) && (not (d.component == d.subcomponent)
    && (not (d.repetition == d.escape) && (not (d.repetition == d.subcomponent) && not (d.escape == d.subcomponent)))))))))

abbrev pub are_delimiters : Delimiters → Bool
are_delimiters d =
    is_delimiter d.field && (is_delimiter d.component && (is_delimiter d.repetition && (is_delimiter d.escape && (is_delimiter d.subcomponent && are_distinct d))))

-- behind n bytes the line has ended, or the field separator follows
abbrev pub ends_at : ℕ → ℕ → List ℕ → Bool
ends_at field n line = length line == n || slice_index line n == field

-- five delimiters stand behind MSH, and then the line ends or the field separator follows
abbrev pub is_delimited : List ℕ → Bool
is_delimited line = nat_le 8 (length line) && (are_delimiters (delimiters_of line) && ends_at (slice_index line 3) 8 line)

-- ---- the other lines

-- a name that isn't MSH, and then the line ends or the field separator follows
abbrev pub is_segment_line : ℕ → List ℕ → Bool
is_segment_line field line = is_named line && (not (is_header line) && ends_at field 3 line)

-- the place of the first line that is none
abbrev pub first_bad : ℕ → List Line → Option ℕ
first_bad field [] = None
first_bad field (l ∷ ls) = if is_segment_line field l.bytes then first_bad field ls else Some l.at
