-- What a message is written as: each segment's values between the separators |^~\&, none behind the last, and a CR (HL7 v2.5.1 chapter 2, 2.6 "Message construction rules").
use Rattle.std.specs.Prelude.{ℕ, zero, suc, ◌+◌, ◌-◌, ◌==◌, max, if◌then◌else◌, List, [], ◌∷◌, ◌++◌, unwrap_or}
use Rattle.std.specs.List.{join_with_byte, flat_map}
use Rattle.std.specs.Ordering.{nat_cmp}
use Rattle.std.specs.Cmp.Lexicographic.{slice_cmp}
use Rattle.std.specs.FinMap as texts
use Rattle.std.specs.FinMap.{find}
use Rattle.gw_er7.specs.Names.{is_header}
use Rattle.gw_er7.specs.Message.{SegmentValue, first_number, first_field}
use Rattle.gw_er7.specs.Entries.{Entry}

-- the entry without its first number, where that is n
abbrev pub strip : ℕ → List ℕ → List ℕ → List Entry
strip n [] text = []
strip n (m ∷ key) text = if m == n then (key, text) ∷ [] else []

-- the entries under the number n
abbrev pub those : ℕ → List Entry → List Entry
those n [] = []
those n (e ∷ es) = strip n e.0 e.1 ++ those n es

-- the greatest first number
abbrev pub last_number : List Entry → ℕ
last_number [] = 0
last_number (e ∷ es) = max (first_number e.0) (last_number es)

-- the bytes of `count` parts, from the number m on
abbrev pub parts_from : (List Entry → List ℕ) → List Entry → ℕ → ℕ → List (List ℕ)
parts_from inner es m zero = []
parts_from inner es m (suc count) = inner (those m es) ∷ parts_from inner es (m + 1) count

-- the parts from the first up to the last that holds a text, with the separator between them
abbrev pub layer : (List Entry → List ℕ) → ℕ → ℕ → List Entry → List ℕ
layer inner separator first es = join_with_byte separator (parts_from inner es first (last_number es + 1 - first))

abbrev pub leaf_text : List Entry → List ℕ
leaf_text es = unwrap_or (find (slice_cmp nat_cmp) [] es) []

-- & between subcomponents
abbrev pub component_text : List Entry → List ℕ
component_text es = layer leaf_text 38 1 es

-- ^ between components
abbrev pub repetition_text : List Entry → List ℕ
repetition_text es = layer component_text 94 1 es

-- ~ between repetitions
abbrev pub field_text : List Entry → List ℕ
field_text es = layer repetition_text 126 1 es

-- | between fields, the first of which has this number
abbrev pub fields_text : ℕ → List Entry → List ℕ
fields_text first es = layer field_text 124 first es

-- the fields behind a separator, nothing where there are none
abbrev pub behind_separator : ℕ → List Entry → List ℕ
behind_separator first [] = []
behind_separator first (e ∷ es) = 124 ∷ fields_text first (e ∷ es)

-- |^~\& in MSH, nothing elsewhere
abbrev pub delimiters_text : List ℕ → List ℕ
delimiters_text name = if is_header name then 124 ∷ 94 ∷ 126 ∷ 92 ∷ 38 ∷ [] else []

-- the line of a segment: its name, in MSH the delimiters, and its fields
abbrev pub line_text : SegmentValue → List ℕ
line_text s = s.name ++ delimiters_text s.name ++ behind_separator (first_field s.name) (texts.entries s.at)

-- the line of this name and these values, with a CR behind it
abbrev pub closed_line : List ℕ → List Entry → List ℕ
closed_line name es = name ++ delimiters_text name ++ behind_separator (first_field name) es ++ 13 ∷ []

-- each line with a CR behind it
abbrev pub written : List SegmentValue → List ℕ
written message = flat_map (λ s. line_text s ++ 13 ∷ []) message
