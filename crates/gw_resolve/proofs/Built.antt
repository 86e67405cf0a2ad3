-- Items made one after the other.
use Rattle.std.proofs.Common.{◌≡◌, ℕ, ◌+◌, ◌<◌, ◌≤◌, List, [], ◌∷◌, ◌++◌, drop, get_or, length, refl, sym, ap, ◌∙◌}
use Rattle.gw_maplang.specs.Shapes as raw
use Rattle.gw_maplang.specs.Seen as raws
use Rattle.gw_maplang.specs.declared.item.Item as their
use Rattle.std.proofs.Math.ListN.{drop_of_length-le}
use Rattle.gw_maplang.specs.declared.item.GroupItem as their_group
use Rattle.gw_maplang.specs.declared.item.FlatItem as their_flat
use Rattle.gw_maplang.proofs.Rows as their_rows
use Rattle.gw_profile.specs.Shapes.{Forest}
use Rattle.gw_resolve.specs.declared.resolved.Item.{Item, Group, Flat}
use Rattle.gw_resolve.specs.declared.resolved.GroupItem.{GroupItem}
use Rattle.gw_resolve.specs.declared.resolved.FlatItem.{FlatItem}
use Rattle.gw_resolve.specs.Places.{Element, nodes_of_child, within}
use Rattle.gw_resolve.specs.Resolved.{Items, no_items, group_item, flat_item}
use Rattle.gw_resolve.specs.Seen.{place, some_condition, with_item, all_items}
use Rattle.gw_resolve.specs.Naming.{node_or, place_or, condition_within, resolved_items}
use Rattle.gw_resolve.proofs.Rows.{group_items, flat_items}
use Rattle.gw_resolve.proofs.Noting.{front}

-- ---- items

-- items with others behind them
abbrev pub with_items : List raw.TableValue → List Item → Items → Items
with_items tables [] rest = rest
with_items tables (i ∷ items) rest = with_item tables i (with_items tables items rest)

pub with_none : (tables : List raw.TableValue) (xs : List Item) → with_items tables xs no_items ≡ all_items tables xs
with_none tables [] = refl
with_none tables (x ∷ xs) = ap (with_item tables x) (with_none tables xs)

pub with_more : (tables : List raw.TableValue) (xs : List Item) (x : Item) (rest : Items) → with_items tables (xs ++ x ∷ []) rest ≡ with_items tables xs (with_item tables x rest)
with_more tables [] x rest = refl
with_more tables (y ∷ xs) x rest = ap (with_item tables y) (with_more tables xs x rest)

-- one more of the items that are made
pub items_made : (tables : List raw.TableValue) (scope : List Element) (nodes : Forest) (whole : Items) (xs : List their.Item) (i : ℕ) (x : their.Item) (ys zs : List Item) (y : Item) → i < length xs → x ≡ get_or xs i x → zs ≡ ys ++ y ∷ []
    → ((tables : List raw.TableValue) (rest : raw.Items) → with_item tables y (resolved_items tables scope nodes rest) ≡ resolved_items tables scope nodes (raws.with_item x rest))
    → whole ≡ with_items tables ys (resolved_items tables scope nodes (raws.all_items (drop i xs))) → whole ≡ with_items tables zs (resolved_items tables scope nodes (raws.all_items (drop (i + 1) xs)))
items_made tables scope nodes whole xs i x ys zs y m e pushed one so_far =
    so_far ∙ ap (λ l. with_items tables ys (resolved_items tables scope nodes (raws.all_items l))) (front xs i x m e)
    ∙ ap (with_items tables ys) (sym (one tables (raws.all_items (drop (i + 1) xs))))
    ∙ sym (with_more tables ys y (resolved_items tables scope nodes (raws.all_items (drop (i + 1) xs))))
    ∙ ap (λ l. with_items tables l (resolved_items tables scope nodes (raws.all_items (drop (i + 1) xs)))) (sym pushed)

-- none is left
pub items_done : (tables : List raw.TableValue) (scope : List Element) (nodes : Forest) (whole : Items) (xs : List their.Item) (i : ℕ) (ys : List Item) → length xs ≤ i → whole ≡ with_items tables ys (resolved_items tables scope nodes (raws.all_items (drop i xs))) → all_items tables ys ≡ whole
items_done tables scope nodes whole xs i ys le so_far =
    sym (so_far ∙ ap (λ l. with_items tables ys (resolved_items tables scope nodes (raws.all_items l))) (drop_of_length-le xs le) ∙ with_none tables ys)

-- a group with its items
pub made_group : (tables : List raw.TableValue) (scope : List Element) (nodes : Forest) (g : their_group.GroupItem) (made : GroupItem) (rest : raw.Items)
    → made.line ≡ g.line → made.child ≡ node_or 0 nodes g.label.items → place made.place ≡ place_or scope (raws.path g.walk.path)
    → some_condition made.condition ≡ condition_within (within scope (place_or scope (raws.path g.walk.path))) (raws.field_condition_some g.walk.condition)
    → all_items tables made.items.items ≡ resolved_items tables (within scope (place_or scope (raws.path g.walk.path))) (nodes_of_child nodes (node_or 0 nodes g.label.items)) (raws.all_items g.items.items)
    → with_item tables (Group made) (resolved_items tables scope nodes rest) ≡ resolved_items tables scope nodes (raws.with_item (their.EachAs g) rest)
made_group tables scope nodes g made rest line child at condition items =
    let others = resolved_items tables scope nodes rest in
    group_items tables made others ∙ (λ i. group_item (record { line = line i; child = child i; place = at i; condition = condition i }) (items i) others)
    ∙ ap (resolved_items tables scope nodes) (sym (their_rows.group_items g rest))

-- a flat with its items
pub made_flat : (tables : List raw.TableValue) (scope : List Element) (nodes : Forest) (f : their_flat.FlatItem) (made : FlatItem) (rest : raw.Items)
    → made.line ≡ f.line → place made.place ≡ place_or scope (raws.path f.walk.path)
    → some_condition made.condition ≡ condition_within (within scope (place_or scope (raws.path f.walk.path))) (raws.field_condition_some f.walk.condition)
    → all_items tables made.items.items ≡ resolved_items tables (within scope (place_or scope (raws.path f.walk.path))) nodes (raws.all_items f.items.items)
    → with_item tables (Flat made) (resolved_items tables scope nodes rest) ≡ resolved_items tables scope nodes (raws.with_item (their.EachFlat f) rest)
made_flat tables scope nodes f made rest line at condition items =
    let others = resolved_items tables scope nodes rest in
    flat_items tables made others ∙ (λ i. flat_item (record { line = line i; place = at i; condition = condition i }) (items i) others)
    ∙ ap (resolved_items tables scope nodes) (sym (their_rows.flat_items f rest))
