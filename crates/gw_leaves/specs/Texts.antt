-- Texts and shapes as the program holds them.
use Rattle.std.specs.Prelude.{ℕ, List, map, Option, option_copied, option_map, unwrap_or}
use Rattle.std.specs.Global.{Vec}
use denote.Ref.{Bor}
use Rattle.gw_maplang.specs.Shapes.{Rows}
use Rattle.gw_leaves.specs.declared.shape.Values as values_of
use Rattle.gw_leaves.specs.declared.shape.Shape as shapes
use Rattle.gw_resolve.specs.Naming.{no_rows}
use Rattle.gw_leaves.specs.Leaves.{Values, Shape, any, listed}

abbrev pub items_all : List (Vec ℕ) → List (List ℕ)
items_all all = map (λ v. v.items) all

-- a table that isn't there has no rows
abbrev pub rows_value : Option (Bor Rows) → Rows
rows_value table = unwrap_or (option_copied table) no_rows

-- ---- a shape that was made

abbrev pub values_value : values_of.Values → Values
values_value (values_of.TheVariants.Any len count) = any count len
values_value (values_of.TheVariants.Listed all) = listed (items_all all.items)

abbrev pub shape_value : shapes.Shape → Shape
shape_value s = record { presence = s.presence; values = values_value s.values }

abbrev pub some_items : Option (Bor (List (Vec ℕ))) → Option (List (List ℕ))
some_items all = option_map (λ b. items_all b.now) all
