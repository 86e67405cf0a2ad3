-- The conditions and alternatives of items, one item after the other.
use Rattle.std.proofs.Common.{◌≡◌, ℕ, ◌+◌, ◌<◌, List, ◌++◌, length, drop, get_or, sym, ap, ◌∙◌}
use Rattle.std.proofs.lemmas.List.{append-nil}
use Rattle.std.specs.Global.{Vec}
use Rattle.gw_profile.specs.Shapes.{ProfileValue}
use Rattle.gw_maplang.specs.Shapes.{TableValue}
use Rattle.gw_resolve.specs.declared.resolved.GroupItem.{GroupItem}
use Rattle.gw_resolve.specs.declared.resolved.FlatItem.{FlatItem}
use Rattle.gw_resolve.specs.declared.resolved.Item.{Item, Segment, Group, Flat}
use Rattle.gw_resolve.specs.declared.failure.Failure as declared
use Rattle.gw_resolve.specs.Failures.{Failure}
use Rattle.gw_resolve.specs.Places.{Element, within}
use Rattle.gw_resolve.specs.Resolved.{Items, no_items}
use Rattle.gw_check.specs.Levels.{sources}
use Rattle.gw_check.specs.Reached.{asked_failures, reached_failures}
use Rattle.gw_resolve.specs.Seen.{Notes, failures, place, some_condition, with_item, all_items}
use Rattle.gw_resolve.proofs.Noting.{front, added_one, noted_twice}
use Rattle.gw_resolve.proofs.Rows.{group_items, flat_items}

module _ (tables : List TableValue) (from : ProfileValue) (scope : List Element) where
  -- ---- one item, and those behind it

  first_and_rest : (i : Item) (rest : Items) → reached_failures from scope (with_item tables i rest) ≡ reached_failures from scope (with_item tables i no_items) ++ reached_failures from scope rest
  first_and_rest (Segment s) rest = ap (λ l. l ++ reached_failures from scope rest) (sym (append-nil _))
  first_and_rest i rest = ap (λ l. l ++ reached_failures from scope rest) (sym (append-nil _))

  pub items_more : (items : List Item) (k : ℕ) (i : Item) (first : List Failure) (old new : Vec declared.Failure) → k < length items → i ≡ get_or items k i → Notes old new (reached_failures from scope (with_item tables i no_items)) →
      first ++ reached_failures from scope (all_items tables items) ≡ failures old.items ++ reached_failures from scope (all_items tables (drop k items)) →
      first ++ reached_failures from scope (all_items tables items) ≡ failures new.items ++ reached_failures from scope (all_items tables (drop (k + 1) items))
  items_more items k i first old new low at notes h =
      h
      ∙ added_one (failures old.items) (failures new.items) (reached_failures from scope (with_item tables i no_items)) (reached_failures from scope (all_items tables (drop (k + 1) items))) (reached_failures from scope (all_items tables (drop k items)))
      (ap (λ l. reached_failures from scope (all_items tables l)) (front items k i low at) ∙ first_and_rest i (all_items tables (drop (k + 1) items))) notes

  -- ---- a group, and a flat

  module _ (i : Item) (is : List Item) (walked inner : List Element) (first middle last : Vec declared.Failure) where
    pub group_noted : (g : GroupItem) → i ≡ Group g → is ≡ g.items.items → walked ≡ within scope (place g.place) → inner ≡ within scope (place g.place) →
        Notes first middle (asked_failures (sources from walked) g.line (some_condition g.condition)) → Notes middle last (reached_failures from inner (all_items tables is)) →
        Notes first last (reached_failures from scope (with_item tables i no_items))
    group_noted g same items here there asked inside =
        noted_twice (failures first.items) (failures middle.items) (failures last.items) _ _ asked inside
        ∙ ap (λ l. failures first.items ++ l)
        ((λ j. asked_failures (sources from (here j)) g.line (some_condition g.condition) ++ reached_failures from (there j) (all_items tables (items j)))
        ∙ sym (append-nil (asked_failures (sources from (within scope (place g.place))) g.line (some_condition g.condition) ++ reached_failures from (within scope (place g.place)) (all_items tables g.items.items)))
        ∙ sym (ap (reached_failures from scope) (ap (λ j. with_item tables j no_items) same ∙ group_items tables g no_items)))

    pub flat_noted : (f : FlatItem) → i ≡ Flat f → is ≡ f.items.items → walked ≡ within scope (place f.place) → inner ≡ within scope (place f.place) →
        Notes first middle (asked_failures (sources from walked) f.line (some_condition f.condition)) → Notes middle last (reached_failures from inner (all_items tables is)) →
        Notes first last (reached_failures from scope (with_item tables i no_items))
    flat_noted f same items here there asked inside =
        noted_twice (failures first.items) (failures middle.items) (failures last.items) _ _ asked inside
        ∙ ap (λ l. failures first.items ++ l)
        ((λ j. asked_failures (sources from (here j)) f.line (some_condition f.condition) ++ reached_failures from (there j) (all_items tables (items j)))
        ∙ sym (append-nil (asked_failures (sources from (within scope (place f.place))) f.line (some_condition f.condition) ++ reached_failures from (within scope (place f.place)) (all_items tables f.items.items)))
        ∙ sym (ap (reached_failures from scope) (ap (λ j. with_item tables j no_items) same ∙ flat_items tables f no_items)))
