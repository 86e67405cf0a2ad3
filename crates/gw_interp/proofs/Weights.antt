-- How much is left to do in items, which the program's recursion makes less.
use Rattle.std.proofs.Common.{◌≡◌, ℕ, zero, suc, ◌+◌, ◌<◌, ◌≤◌, List, [], ◌∷◌, Option, Some, None, length, get_or, ap, ◌∙◌, arith, option_map}
use Rattle.gw_resolve.specs.declared.resolved.Item.{Item, Segment, Group, Flat, Group', Flat'}
use Rattle.gw_resolve.specs.declared.resolved.SegmentItem.{SegmentItem}
use Rattle.gw_resolve.specs.declared.resolved.GroupItem.{GroupItem}
use Rattle.gw_resolve.specs.declared.resolved.FlatItem.{FlatItem}
use Rattle.gw_resolve.specs.Places.{Place}
use Rattle.gw_resolve.specs.Resolved.{Items, no_items, segment_item, group_item, flat_item}
use Rattle.gw_resolve.specs.Seen.{place, with_item, all_items}
use Rattle.gw_resolve.proofs.Rows.{group_items, flat_items}
use Rattle.gw_interp.specs.declared.items.Part.{Part}
use Rattle.gw_interp.specs.declared.items.Part.TheVariants.{OneSegment, Level}

abbrev steps_of : Option Place → ℕ
steps_of None = 0
steps_of (Some p) = length p.steps

-- how many items there are, at any depth, and how many steps lead to what they walk
abbrev weight : Items → ℕ
weight no_items = 0
weight (segment_item s rest) = 2 + steps_of s.place + weight rest
weight (group_item g items rest) = 2 + length g.place.steps + weight items + weight rest
weight (flat_item f items rest) = 2 + length f.place.steps + weight items + weight rest

abbrev pub weight_one : Item → ℕ
weight_one i = weight (with_item [] i no_items)

abbrev pub weight_all : List Item → ℕ
weight_all is = weight (all_items [] is)

abbrev pub weight_segments : SegmentItem → ℕ
weight_segments s = 2 + steps_of (option_map place s.place)

abbrev pub weight_part : Part → ℕ
weight_part (OneSegment nodes item) = 0
weight_part (Level nodes items condition) = weight_all items.now

pub lighter_group : (i : Item) (g : GroupItem) (is : List Item) → i ≡ Group g → is ≡ g.items.items → weight_one i ≡ 2 + length g.place.steps.items + weight_all is
lighter_group i g is same items =
    let e : weight_one i ≡ 2 + length g.place.steps.items + weight_all g.items.items + 0 = ap weight (ap (λ j. with_item [] j no_items) same ∙ group_items [] g no_items) in
    let f : weight_all is ≡ weight_all g.items.items = ap weight_all items in
    omega (arith, e, f)

pub lighter_flat : (i : Item) (f : FlatItem) (is : List Item) → i ≡ Flat f → is ≡ f.items.items → weight_one i ≡ 2 + length f.place.steps.items + weight_all is
lighter_flat i f is same items =
    let e : weight_one i ≡ 2 + length f.place.steps.items + weight_all f.items.items + 0 = ap weight (ap (λ j. with_item [] j no_items) same ∙ flat_items [] f no_items) in
    let g : weight_all is ≡ weight_all f.items.items = ap weight_all items in
    omega (arith, e, g)

weight_more : (i : Item) (rest : Items) → weight (with_item [] i rest) ≡ weight_one i + weight rest
weight_more (Segment s) rest = omega arith
weight_more (Group' line j from asked shape row) rest = omega arith
weight_more (Flat' line from asked shape row) rest = omega arith

pub not_heavier : (items : List Item) (k : ℕ) (i : Item) → k < length items → i ≡ get_or items k i → weight_one i ≤ weight_all items
not_heavier [] k i low at = absurd (omega (arith, low))
not_heavier (x ∷ items) zero i low at = let e = weight_more x (all_items [] items) in let f : weight_one i ≡ weight_one x = ap weight_one at in omega (arith, e, f)
not_heavier (x ∷ items) (suc k) i low at = let e = weight_more x (all_items [] items) in omega (arith, e, not_heavier items k i (omega (arith, low)) at)
