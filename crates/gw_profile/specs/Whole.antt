-- The rules of the whole profile, after all of its lines.
use Rattle.std.specs.Prelude.{ℕ, ◌==◌, Bool, true, false, not, ◌&&◌, ◌||◌, if◌then◌else◌, List, [], ◌∷◌, reverse, length, Option, Some, None, bytes_eq, codes, Result, Ok, Err}
use Rattle.std.specs.List.{list_all}
use Rattle.gw_lines.specs.Reading.{adding, spelled_by}
use Rattle.gw_profile.specs.declared.fault.ProfileFault.{ProfileFault}
use Rattle.gw_profile.specs.declared.fault.ProfileFault.TheVariants.{Syntax, EmptyGroup, Ambiguous, Header, TooLarge}
use Rattle.gw_profile.specs.declared.shape.Usage as usages
use Rattle.gw_profile.specs.declared.shape.Usage.TheVariants.{R, RE, O, X}
use Rattle.gw_profile.specs.declared.shape.Card.{Card}
use Rattle.gw_profile.specs.Shapes.{ProfileValue}
use Rattle.gw_profile.specs.Line.{Line, Begins, Table, Segment, Group, Counts, allows}
use Rattle.gw_profile.specs.Fault.{begun, levels, takes}
use Rattle.gw_profile.specs.Value.{nodes, profile}
use Rattle.gw_profile.specs.LookAhead.{is_optional, ambiguous}

-- the line of the first group without a child of min at least 1
abbrev pub empty_group : List Line → Option ℕ
empty_group [] = None
empty_group (Group at label usage card ∷ below) = if is_optional (nodes below).here then Some at else empty_group below
empty_group (line ∷ below) = empty_group below

abbrev pub is_msh : List ℕ → Bool
is_msh name = bytes_eq name (codes "MSH")

-- R 1..1
abbrev pub is_once : Option usages.Usage → Card → Bool
is_once None card = false
is_once (Some R) card = card.min == 1 && not (allows card.max 2)
is_once (Some RE) card = false
is_once (Some O) card = false
is_once (Some X) card = false

-- a segment line that has MSH as its name or label
abbrev pub is_header : Line → Bool
is_header (Segment name label renamed usage card) = is_msh name || is_msh label
is_header line = false

-- `segment MSH R 1..1`, without a label of its own
abbrev pub is_first : Line → Bool
is_first (Segment name label renamed usage card) = is_msh name && not renamed && is_once usage card
is_first line = false

-- a line before the nodes
abbrev pub is_preamble : Line → Bool
is_preamble (Begins name) = true
is_preamble (Table name values) = true
is_preamble Counts = true
is_preamble line = false

-- the first node is the header, and MSH stands nowhere else
abbrev pub is_headed : List Line → Bool
is_headed [] = false
is_headed (line ∷ below) = if is_preamble line then is_headed below else is_first line && list_all (λ other. not (is_header other)) below

-- some group is open, or nothing was said
abbrev pub is_unclosed : List Line → Bool
is_unclosed all = not (begun all) || not (length (levels all).outer == 0)

abbrev pub unambiguous : Option (List ℕ) → ProfileValue → Result ProfileValue ProfileFault
unambiguous None value = Ok value
unambiguous (Some name) value = Err (Ambiguous name)

abbrev pub headed : Bool → ProfileValue → Result ProfileValue ProfileFault
headed true value = unambiguous (ambiguous value.nodes []) value
headed false value = Err Header

abbrev pub filled : Option ℕ → Bool → ProfileValue → Result ProfileValue ProfileFault
filled None head value = headed head value
filled (Some at) head value = Err (EmptyGroup at)

-- the profile that the lines spell from the first on, or the fault of the whole: an empty group, then the header, then an ambiguous name
abbrev pub ruled : List Line → Result ProfileValue ProfileFault
ruled lines = filled (empty_group lines) (is_headed lines) (profile lines)

-- the same of all lines, the last first; at is the line after the last
abbrev pub whole : List Line → ℕ → Result ProfileValue ProfileFault
whole all at = if is_unclosed all then Err (Syntax at) else ruled (reverse all)

abbrev pub most_bytes : ℕ
most_bytes = 1048576

abbrev pub most_lines : ℕ
most_lines = 10000

-- the profile that the text spells, or its one fault
abbrev pub spelled : List ℕ → Result ProfileValue ProfileFault
spelled text = spelled_by most_bytes most_lines TooLarge Syntax (adding takes) whole [] text
