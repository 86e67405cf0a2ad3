-- The items of a group or flat as a list.
use Rattle.std.proofs.Common.{◌≡◌, List, refl, ap, ◌∙◌}
use mathlib.Core.Former.{Count}
use Rattle.gw_maplang.specs.Shapes.{TableValue}
use Rattle.gw_resolve.specs.declared.resolved.GroupItem.{GroupItem}
use Rattle.gw_resolve.specs.declared.resolved.FlatItem.{FlatItem}
use Rattle.gw_resolve.specs.declared.resolved.Item.{Item, Segment, Group, Flat, Group', Flat', Row_of-Item, end_of-Item, more_of-Item, items-the_row-Item, items_hidden-the_row-Item-0}
use Rattle.gw_resolve.specs.Resolved.{Items, group_item, flat_item}
use Rattle.gw_resolve.specs.Seen.{place, some_condition, with_item, row_items, all_items}

listed : (tables : List TableValue) (n : _) (row : Row_of-Item n) → row_items tables row ≡ all_items tables (items-the_row-Item n row)
listed tables n end_of-Item = refl
listed tables n (more_of-Item i rest) = ap (with_item tables i) (listed tables _ rest)

abbrev row_of : Item → (n : Count) × Row_of-Item n
row_of (Group' line child from asked shape row) = (_, row)
row_of (Flat' line from asked shape row) = (_, row)
row_of (Segment s) = (_, end_of-Item)

-- a group with the items behind it
pub group_items : (tables : List TableValue) (g : GroupItem) (rest : Items) → with_item tables (Group g) rest ≡ group_item (record { line = g.line; child = g.child; place = place g.place; condition = some_condition g.condition }) (all_items tables g.items.items) rest
group_items tables g rest =
    let row = row_of (Group g) in
    ap (λ f. group_item (record { line = g.line; child = g.child; place = place g.place; condition = some_condition g.condition }) f rest) (listed tables row.0 row.1 ∙ ap (all_items tables) (items_hidden-the_row-Item-0 g.items))

-- a flat with the items behind it
pub flat_items : (tables : List TableValue) (f : FlatItem) (rest : Items) → with_item tables (Flat f) rest ≡ flat_item (record { line = f.line; place = place f.place; condition = some_condition f.condition }) (all_items tables f.items.items) rest
flat_items tables f rest =
    let row = row_of (Flat f) in
    ap (λ l. flat_item (record { line = f.line; place = place f.place; condition = some_condition f.condition }) l rest) (listed tables row.0 row.1 ∙ ap (all_items tables) (items_hidden-the_row-Item-0 f.items))
