-- The rule on source fields (9): none that may hold something is passed over in silence.
use Rattle.std.specs.Prelude.{ℕ, suc, Bool, true, false, ◌==◌, ◌&&◌, ◌||◌, not, if◌then◌else◌, List, [], ◌∷◌, ◌++◌, flat_map, Option, Some, None, bytes_eq}
use Rattle.std.specs.List.{list_any}
use Rattle.gw_profile.specs.declared.shape.Usage.{Usage}
use Rattle.gw_profile.specs.declared.shape.Usage.TheVariants.{R, RE}
use Rattle.gw_profile.specs.Shapes.{FieldValue, SegmentValue, Forest, nothing, segment, group}
use Rattle.gw_validate.specs.Breaches.{is_forbidden}
use Rattle.gw_resolve.specs.Positions.{Position}
use Rattle.gw_resolve.specs.Resolved.{Items, Drop}
use Rattle.gw_check.specs.Sites.{Origin, read, repeated, given, cut, Site, sites}

-- a field of the segment at a position
pub record SourceField : Type 0 where
  pub at : Position
  pub field : ℕ

-- ---- which fields are read

-- the field of this number, of the segment at this position, is that one
abbrev pub is_field : Position → ℕ → Position → ℕ → Bool
is_field here number at field = number == field && bytes_eq here at

-- a line that makes something of this reads the field
abbrev pub reads : Origin → Position → ℕ → Bool
reads (read from) at field = is_field from.at from.field at field
reads (repeated from) at field = is_field from.at from.field at field
reads (given rows from) at field = is_field from.at from.field at field
reads (cut digits from) at field = is_field from.at from.field at field
reads other at field = false

abbrev pub is_read : List Site → Position → ℕ → Bool
is_read made at field = list_any (λ s. reads s.origin at field) made

-- ---- which are dropped

-- a field by itself
abbrev pub is_dropped : List ℕ → Option ℕ → Position → ℕ → Bool
is_dropped steps None at field = false
is_dropped steps (Some number) at field = is_field steps number at field

abbrev pub drops_field : List Drop → Position → ℕ → Bool
drops_field drops at field = list_any (λ d. is_dropped d.steps d.field at field) drops

-- the element at this position is that one
abbrev pub is_element : Position → Position → Bool
is_element here at = bytes_eq here at

-- an element, with all that is in it
abbrev pub is_dropped_whole : List ℕ → Option ℕ → Position → Bool
is_dropped_whole steps None at = is_element steps at
is_dropped_whole steps (Some number) at = false

abbrev pub drops_element : List Drop → Position → Bool
drops_element drops at = list_any (λ d. is_dropped_whole d.steps d.field at) drops

-- ---- which are passed over: known are the fields that are read or dropped by themselves

abbrev pub may_hold : Usage → Bool
may_hold R = true
may_hold RE = true
may_hold usage = false

abbrev pub is_missed : (Position → ℕ → Bool) → Position → FieldValue → Bool
is_missed known at f = may_hold f.usage && not (known at f.number)

abbrev pub missed_field : (Position → ℕ → Bool) → Position → FieldValue → List SourceField
missed_field known at f = if is_missed known at f then record { at = at; field = f.number } ∷ [] else []

-- a forbidden segment has none
abbrev pub missed_segment : (Position → ℕ → Bool) → (Position → Bool) → Position → SegmentValue → List SourceField
missed_segment known dropped at s = if dropped at then [] else if is_forbidden s.usage then [] else flat_map (missed_field known at) s.fields

-- those of the nodes from number j on, below this position
abbrev pub missed_nodes : (Position → ℕ → Bool) → (Position → Bool) → Position → ℕ → Forest → List SourceField
missed_nodes known dropped above j nothing = []
missed_nodes known dropped above j (segment s rest) = missed_segment known dropped (above ++ j ∷ []) s ++ missed_nodes known dropped above (suc j) rest
missed_nodes known dropped above j (group g nodes rest) =
    (if dropped (above ++ j ∷ []) then [] else missed_nodes known dropped (above ++ j ∷ []) 0 nodes) ++ missed_nodes known dropped above (suc j) rest

-- those of nodes that are all that is in the element at this position
abbrev pub missed_within : (Position → ℕ → Bool) → (Position → Bool) → Position → Forest → List SourceField
missed_within known dropped at nodes = if dropped at then [] else missed_nodes known dropped at 0 nodes

-- of a source with these nodes those that no item reads and no drop leaves out
abbrev pub passed_over : Items → List Drop → Forest → List SourceField
passed_over items drops nodes = missed_within (λ at field. is_read (sites items) at field || drops_field drops at field) (drops_element drops) [] nodes
