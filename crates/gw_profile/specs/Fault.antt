-- The faults of a line, by the lines above it, the nearest first.
use Rattle.std.specs.Prelude.{ℕ, ◌==◌, Bool, true, false, not, ◌||◌, nat_le, if◌then◌else◌, List, [], ◌∷◌, ◌++◌, length, Option, Some, None, bytes_eq, codes, Result}
use Rattle.std.specs.List.{list_any}
use Rattle.std.specs.Option.{is_some}
use Rattle.gw_lines.specs.Words.{Word}
use Rattle.gw_lines.specs.Grammar as declared_by
use Rattle.gw_lines.specs.Grammar.{Grammar}
use Rattle.gw_profile.specs.declared.fault.ProfileFault.{ProfileFault}
use Rattle.gw_profile.specs.declared.fault.ProfileFault.TheVariants.{Syntax, Usage, Duplicate, UnknownTable, TooDeep}
use Rattle.gw_profile.specs.declared.shape.Usage as declared
use Rattle.gw_profile.specs.declared.shape.Card.{Card}
use Rattle.gw_profile.specs.Line.{Line, Leaf, Begins, Table, Segment, Field, Comp, Sub, Group, End, Counts, form, agrees, is_forbidden}

-- ---- what the lines above leave open

-- a line that may have lines below it: whether it may after all, the least number of a part, and the last one so far
pub record Parent : Type 0 where
  pub shut : Bool
  pub least : ℕ
  pub last : ℕ

-- the lines to which a field, a component and a subcomponent line would belong
pub record Parents : Type 0 where
  pub segment : Option Parent
  pub field : Option Parent
  pub comp : Option Parent

abbrev pub no_parents : Parents
no_parents = record { segment = None; field = None; comp = None }

-- fields 1 and 2 of MSH are its delimiters
abbrev pub least_field : List ℕ → ℕ
least_field name = if bytes_eq name (codes "MSH") then 3 else 1

abbrev pub with_part : ℕ → Option Parent → Option Parent
with_part number None = None
with_part number (Some parent) = Some (record parent { last = number })

abbrev pub has_leaf : Option Leaf → Bool
has_leaf None = false
has_leaf (Some leaf) = true

abbrev pub parents : List Line → Parents
parents [] = no_parents
parents (Segment name label renamed usage card ∷ above) =
    record { segment = Some (record { shut = is_forbidden usage; least = least_field name; last = 0 }); field = None; comp = None }
parents (Field number usage card leaf ∷ above) =
    record { segment = with_part number (parents above).segment; field = Some (record { shut = is_forbidden usage || has_leaf leaf; least = 1; last = 0 }); comp = None }
parents (Comp number usage leaf ∷ above) =
    record { segment = (parents above).segment; field = with_part number (parents above).field; comp = Some (record { shut = is_forbidden usage || has_leaf leaf; least = 1; last = 0 }) }
parents (Sub number usage leaf ∷ above) =
    record { segment = (parents above).segment; field = (parents above).field; comp = with_part number (parents above).comp }
parents (line ∷ above) = no_parents

-- the first line with words says what the text is
abbrev pub begun : List Line → Bool
begun [] = false
begun (line ∷ above) = true

-- one line stands above, which is the first
abbrev pub just_begun : List Line → Bool
just_begun [] = false
just_begun (line ∷ []) = true
just_begun (line ∷ next ∷ above) = false

-- the names of the tables
abbrev pub tables : List Line → List (List ℕ)
tables [] = []
tables (Table name values ∷ above) = tables above ++ name ∷ []
tables (line ∷ above) = tables above

-- the labels of the nodes so far in the innermost open group, and in each group or level around it, the nearest first
pub record Levels : Type 0 where
  pub labels : List (List ℕ)
  pub outer : List (List (List ℕ))

abbrev pub with_label : List ℕ → Levels → Levels
with_label label l = record l { labels = l.labels ++ label ∷ [] }

abbrev pub inside : Levels → Levels
inside l = record { labels = []; outer = l.labels ∷ l.outer }

abbrev pub outside : List (List (List ℕ)) → Levels
outside [] = record { labels = []; outer = [] }
outside (labels ∷ outer) = record { labels = labels; outer = outer }

abbrev pub levels : List Line → Levels
levels [] = record { labels = []; outer = [] }
levels (Segment name label renamed usage card ∷ above) = with_label label (levels above)
levels (Group at label usage card ∷ above) = inside (with_label label (levels above))
levels (End ∷ above) = outside (levels above).outer
levels (line ∷ above) = levels above

-- ---- the tests of a line

-- no line above can hold a part of this number
abbrev pub is_misplaced : ℕ → Option Parent → Bool
is_misplaced number None = true
is_misplaced number (Some parent) = parent.shut || not (nat_le parent.least number)

-- the number doesn't rise
abbrev pub falls : ℕ → Option Parent → Bool
falls number None = false
falls number (Some parent) = nat_le number parent.last

abbrev pub is_among : List ℕ → List (List ℕ) → Bool
is_among bytes others = list_any (bytes_eq bytes) others

abbrev pub has_repeat : List (List ℕ) → Bool
has_repeat [] = false
has_repeat (v ∷ values) = is_among v values || has_repeat values

abbrev pub is_unknown : Option (List ℕ) → List (List ℕ) → Bool
is_unknown None names = false
is_unknown (Some name) names = not (is_among name names)

abbrev pub names_unknown : Option Leaf → List (List ℕ) → Bool
names_unknown None names = false
names_unknown (Some leaf) names = is_unknown leaf.table names

-- the tests of a part, in the order of the faults
abbrev pub part_tests : ℕ → ℕ → Bool → Option Leaf → Option Parent → List (List ℕ) → List (Bool × ProfileFault)
part_tests at number lawful leaf parent names =
    (is_misplaced number parent, Syntax at) ∷ (not lawful, Usage at) ∷ (falls number parent, Duplicate at) ∷ (names_unknown leaf names, UnknownTable at) ∷ []

abbrev pub begins_tests : List Line → ℕ → List (Bool × ProfileFault)
begins_tests above at = (begun above, Syntax at) ∷ []

-- those of the line of a table, by whether one of its values is there twice
abbrev pub table_line_tests : List Line → ℕ → List ℕ → Bool → List (Bool × ProfileFault)
table_line_tests above at name repeats = (not (begun above), Syntax at) ∷ (is_among name (tables above) || repeats, Duplicate at) ∷ []

abbrev pub table_tests : List Line → ℕ → List ℕ → List (List ℕ) → List (Bool × ProfileFault)
table_tests above at name values = table_line_tests above at name (has_repeat values)

abbrev pub segment_tests : List Line → ℕ → List ℕ → Option declared.Usage → Card → List (Bool × ProfileFault)
segment_tests above at label usage card =
    (not (begun above), Syntax at) ∷ (not (agrees usage card), Usage at) ∷ (is_among label (levels above).labels, Duplicate at) ∷ []

abbrev pub group_tests : List Line → ℕ → List ℕ → Option declared.Usage → Card → List (Bool × ProfileFault)
group_tests above at label usage card =
    (not (begun above), Syntax at) ∷ (not (agrees usage card) || is_forbidden usage, Usage at)
    ∷ (is_among label (levels above).labels, Duplicate at) ∷ (nat_le 8 (length (levels above).outer), TooDeep at) ∷ []

abbrev pub end_tests : List Line → ℕ → List (Bool × ProfileFault)
end_tests above at = (length (levels above).outer == 0, Syntax at) ∷ []

-- what lengths count is said directly below the first line
abbrev pub counts_tests : List Line → ℕ → List (Bool × ProfileFault)
counts_tests above at = (not (just_begun above), Syntax at) ∷ []

-- the tests of a line, in the order of the faults
abbrev pub tests : List Line → ℕ → Line → List (Bool × ProfileFault)
tests above at (Begins name) = begins_tests above at
tests above at (Table name values) = table_tests above at name values
tests above at (Segment name label renamed usage card) = segment_tests above at label usage card
tests above at (Field number usage card leaf) = part_tests at number (agrees usage card) leaf (parents above).segment (tables above)
tests above at (Comp number usage leaf) = part_tests at number (is_some usage) leaf (parents above).field (tables above)
tests above at (Sub number usage leaf) = part_tests at number (is_some usage) leaf (parents above).comp (tables above)
tests above at (Group line label usage card) = group_tests above at label usage card
tests above at End = end_tests above at
tests above at Counts = counts_tests above at

-- the lines of a profile, as they are declared
abbrev pub grammar : Grammar Line ProfileFault
grammar = record { form = form; tests = tests; syntax = Syntax }

-- the line that the words are below these lines, or its fault
abbrev pub takes : List Line → ℕ → List Word → Result Line ProfileFault
takes = declared_by.takes grammar
