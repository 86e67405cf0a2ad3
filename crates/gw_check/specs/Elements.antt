-- The elements of a profile that are named by their numbers, and the texts that a profile lists for them (HL7 v2.5.1 chapter 2, 2.12: table, length).
use Rattle.std.specs.Prelude.{ℕ, Bool, ◌&&◌, not, List, [], ◌∷◌, find, Option, is_some, unwrap_or}
use Rattle.gw_profile.specs.declared.shape.Count.{Count}
use Rattle.gw_profile.specs.Fault.{is_among}
use Rattle.gw_profile.specs.Shapes.{SubValue, CompValue, FieldValue, Forest, TableValue}
use Rattle.gw_profile.specs.Numbered.{field_of, comp_of, sub_of}
use Rattle.gw_maplang.specs.Shapes.{second_of}
use Rattle.gw_leaves.specs.Components.{table_values}
use Rattle.gw_leaves.specs.Leaves.{is_short}
use Rattle.gw_check.specs.declared.texts.Taker as takers
use Rattle.gw_resolve.specs.Places.{child, nodes_of_child, fields_of}
use Rattle.gw_resolve.specs.Positions.{Position}

-- the fields of the segment to which the numbers lead, the first of them in these nodes
abbrev pub fields_below : Forest → ℕ → List ℕ → List FieldValue
fields_below nodes j [] = fields_of (child nodes j)
fields_below nodes j (k ∷ at) = fields_below (nodes_of_child nodes j) k at

abbrev pub fields_in : Forest → Position → List FieldValue
fields_in nodes [] = []
fields_in nodes (j ∷ at) = fields_below nodes j at

-- by their numbers
abbrev pub field_at : Forest → Position → ℕ → Option FieldValue
field_at nodes at field = field_of (fields_in nodes at) field

abbrev pub comp_at : Forest → Position → ℕ → ℕ → Option CompValue
comp_at nodes at field comp = comp_of (field_at nodes at field) comp

abbrev pub sub_at : Forest → Position → ℕ → ℕ → ℕ → Option SubValue
sub_at nodes at field comp sub = sub_of (comp_at nodes at field comp) sub

-- ---- texts

-- the values of the table that a subcomponent names
abbrev pub listed : List TableValue → SubValue → List (List ℕ)
listed tables s = unwrap_or (table_values tables s) []

-- what takes a text: a table that lists it, rows of which one is for it, or a length
abbrev pub takes : takers.Taker → List ℕ → Bool
takes (takers.TheVariants.Table table) text = is_among text table.now
takes (takers.TheVariants.Rows rows) text = is_some (second_of text rows.now.rows)
takes (takers.TheVariants.Length count len) text = is_short count len text

-- the first that is no longer than the subcomponent may be, and that isn't taken
abbrev pub untaken : Count → List TableValue → SubValue → takers.Taker → Option (List ℕ)
untaken count tables s taker = find (λ text. is_short count s.len text && not (takes taker text)) (listed tables s)
