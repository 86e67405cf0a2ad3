-- The source fields that the program accounts for, by what lines read and by the drops, and those that are missed.
use Rattle.std.specs.Prelude.{◌≡◌, ◌++◌, ◌==◌, ◌&&◌, ◌||◌, false, Bool, ℕ, List, map, bytes_eq}
use Rattle.std.specs.List.{list_any}
use Rattle.gw_check.specs.declared.accounted.FieldAt.{FieldAt}
use Rattle.gw_check.specs.declared.accounted.Accounted.{Accounted}
use Rattle.gw_profile.specs.declared.node.Node.{Node, Seg, Group'}
use Rattle.gw_profile.specs.Seen.{segment_value, row_forest}
use Rattle.gw_profile.specs.Shapes.{FieldValue, Forest}
use Rattle.gw_resolve.specs.Resolved.{Drop}
use Rattle.gw_check.specs.Reads.{SourceField, is_read, drops_field, drops_element, missed_field, missed_segment, missed_nodes, missed_within}
use Rattle.gw_resolve.specs.Positions.{Position}
use Rattle.gw_check.specs.Sites.{Site}

abbrev pub field_at : FieldAt → SourceField
field_at f = record { at = f.at.items; field = f.field }

abbrev pub fields_at : List FieldAt → List SourceField
fields_at = map field_at

-- these were found as well
abbrev pub Adds : List FieldAt → List FieldAt → List SourceField → Type 0
Adds old new more = fields_at new ≡ fields_at old ++ more

-- ---- what is accounted for

-- a field by itself
abbrev pub has_field : Accounted → Position → ℕ → Bool
has_field known at field = list_any (λ f. bytes_eq at f.at.items && field == f.field) known.fields.keys

-- an element, with all that is in it
abbrev pub has_element : Accounted → Position → Bool
has_element known at = list_any (λ v. bytes_eq at v.items) known.elements.keys

-- the fields and elements that pass these tests were added
pub record Gains (old new : Accounted) (field : Position → ℕ → Bool) (element : Position → Bool) : Type 0 where
  pub fields : (at : Position) (number : ℕ) → has_field new at number ≡ (has_field old at number || field at number)
  pub elements : (at : Position) → has_element new at ≡ (has_element old at || element at)

abbrev pub no_field : Position → ℕ → Bool
no_field at number = false

abbrev pub no_element : Position → Bool
no_element at = false

-- all that is read or dropped is accounted for, and nothing else
pub record Accounts (known : Accounted) (made : List Site) (drops : List Drop) : Type 0 where
  pub fields : (at : Position) (number : ℕ) → has_field known at number ≡ (is_read made at number || drops_field drops at number)
  pub elements : (at : Position) → has_element known at ≡ drops_element drops at

-- ---- what isn't

abbrev pub field_missed : Accounted → Position → FieldValue → List SourceField
field_missed known = missed_field (has_field known)

abbrev pub nodes_missed : Accounted → Position → ℕ → Forest → List SourceField
nodes_missed known = missed_nodes (has_field known) (has_element known)

abbrev pub within_missed : Accounted → Position → Forest → List SourceField
within_missed known = missed_within (has_field known) (has_element known)

abbrev pub node_missed : Accounted → Position → Node → List SourceField
node_missed known at (Seg s) = missed_segment (has_field known) (has_element known) at (segment_value s)
node_missed known at (Group' label usage card shape inner) = within_missed known at (row_forest inner)
