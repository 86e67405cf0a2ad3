-- The items of a group or flat as a list.
use Rattle.std.proofs.Common.{◌≡◌, refl, ap, ◌∙◌}
use mathlib.Core.Former.{Count}
use Rattle.gw_maplang.specs.declared.item.GroupItem.{GroupItem}
use Rattle.gw_maplang.specs.declared.item.FlatItem.{FlatItem}
use Rattle.gw_maplang.specs.declared.item.Item.{Item, SegFrom, SegAlways, EachAs, EachFlat, EachAs', EachFlat', Row_of-Item, end_of-Item, more_of-Item, items-the_row-Item, items_hidden-the_row-Item-0}
use Rattle.gw_maplang.specs.Shapes.{Items, group, flat}
use Rattle.gw_maplang.specs.Seen.{walk, with_item, row_items, all_items}

listed : (n : _) (row : Row_of-Item n) → row_items row ≡ all_items (items-the_row-Item n row)
listed n end_of-Item = refl
listed n (more_of-Item first rest) = ap (with_item first) (listed _ rest)

abbrev row_of : Item → (n : Count) × Row_of-Item n
row_of (EachAs' line label from shape row) = (_, row)
row_of (EachFlat' line from shape row) = (_, row)
row_of (SegFrom s) = (_, end_of-Item)
row_of (SegAlways s) = (_, end_of-Item)

-- a group with the items behind it
pub group_items : (g : GroupItem) (rest : Items) → with_item (EachAs g) rest ≡ group (record { line = g.line; label = g.label.items; walk = walk g.walk }) (all_items g.items.items) rest
group_items g rest =
    let row = row_of (EachAs g) in
    ap (λ f. group (record { line = g.line; label = g.label.items; walk = walk g.walk }) f rest) (listed row.0 row.1 ∙ ap all_items (items_hidden-the_row-Item-0 g.items))

-- a flat with the items behind it
pub flat_items : (f : FlatItem) (rest : Items) → with_item (EachFlat f) rest ≡ flat (record { line = f.line; walk = walk f.walk }) (all_items f.items.items) rest
flat_items f rest =
    let row = row_of (EachFlat f) in
    ap (λ l. flat (record { line = f.line; walk = walk f.walk }) l rest) (listed row.0 row.1 ∙ ap all_items (items_hidden-the_row-Item-0 f.items))
