use Rattle.std.proofs.Common.{◌≡◌, ℕ, ◌≤◌, List, [], ◌∷◌, Option, sym, ap, ◌∙◌, length, get_or, subst, arith}
use Rattle.gw_resolve.specs.declared.resolved.FlatItem.{FlatItem}
use Rattle.gw_resolve.specs.declared.resolved.Item.{Item, Segment, Flat, Group', Flat'}
use Rattle.gw_resolve.specs.Resolved.{no_items, first_child}
use Rattle.gw_resolve.specs.Seen.{with_item, all_items, FirstChild, ChildOf}
use Rattle.gw_resolve.proofs.Rows.{flat_items}
use Rattle.gw_resolve.proofs.child.+child.Goals as goal

child_flat : (i : Item) (f : FlatItem) (is : List Item) (c : Option ℕ) → i ≡ Flat f → is ≡ f.items.items → FirstChild is c → ChildOf i c
child_flat i f is c same items first tables =
    first tables ∙ ap (λ l. first_child (all_items tables l)) items
    ∙ sym (ap first_child (ap (λ j. with_item tables j no_items) same ∙ flat_items tables f no_items))

child_at_first : (items : List Item) (i : Item) (c : Option ℕ) → 1 ≤ length items → i ≡ get_or items 0 i → ChildOf i c → FirstChild items c
child_at_first [] i c some is h = absurd (omega (arith, some))
child_at_first (Segment s ∷ items) i c some is h = subst (λ j. ChildOf j c) is h
child_at_first (Group' line child from asked shape row ∷ items) i c some is h = subst (λ j. ChildOf j c) is h
child_at_first (Flat' line from asked shape row ∷ items) i c some is h = subst (λ j. ChildOf j c) is h

pub child_of-returns-in-Flat : goal.child_of-returns-in-Flat
child_of-returns-in-Flat t c = child_flat c.args.item.now c.in-Flat.flat c.deref.result.now c.first_child.result c.in-Flat.is c.deref.ensures.value c.first_child.ensures

pub first_child-returns : goal.first_child-returns
first_child-returns t c = child_at_first c.args.items.now c.item-item.result c.child_of.result c.in-len1-up.len_at_least c.item-item.is c.child_of.ensures
