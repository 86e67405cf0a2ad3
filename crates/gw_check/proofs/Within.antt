-- The failures within items, one after the other.
use Rattle.std.proofs.Common.{◌≡◌, ℕ, ◌+◌, ◌<◌, List, ◌++◌, length, drop, get_or, sym, ap, ◌∙◌, subst}
use Rattle.std.proofs.lemmas.List.{append-nil}
use Rattle.std.specs.Global.{Vec}
use Rattle.gw_profile.specs.Shapes as profiles
use Rattle.gw_maplang.specs.Shapes.{TableValue}
use Rattle.gw_resolve.specs.declared.resolved.GroupItem.{GroupItem}
use Rattle.gw_resolve.specs.declared.resolved.FlatItem.{FlatItem}
use Rattle.gw_resolve.specs.declared.resolved.Item.{Item, Segment, Group, Flat}
use Rattle.gw_resolve.specs.declared.failure.Failure as declared
use Rattle.gw_resolve.specs.Failures.{Failure}
use Rattle.gw_resolve.specs.Places.{Element, nodes_of_child, within}
use Rattle.gw_resolve.specs.Resolved.{Items, no_items}
use Rattle.gw_check.specs.Levels.{level_failures, items_failures}
use Rattle.gw_resolve.specs.declared.element.ScopeNode as elements
use Rattle.gw_resolve.specs.Seen.{Notes, failures, place, with_item, all_items, scope}
use Rattle.gw_check.specs.Found.{NotesLevel}
use Rattle.gw_resolve.proofs.Noting.{front, added_one, noted_twice}
use Rattle.gw_resolve.proofs.Rows.{group_items, flat_items}

-- lent twice
pub level_same : (a b : List elements.ScopeNode) (is js : List Item) → a ≡ b → is ≡ js → (tables : List TableValue) (holder : ℕ) (nodes : profiles.Forest) (old new : Vec declared.Failure) → NotesLevel tables (scope a) holder 0 nodes is old new → NotesLevel tables (scope b) holder 0 nodes js old new
level_same a b is js e f tables holder nodes old new h = subst (λ x. NotesLevel tables (scope b) holder 0 nodes x old new) f (subst (λ x. NotesLevel tables (scope x) holder 0 nodes is old new) e h)

module _ (tables : List TableValue) (from to : profiles.ProfileValue) where
  -- ---- one item, and those behind it

  first_and_rest : (scope : List Element) (nodes : profiles.Forest) (i : Item) (rest : Items) → items_failures from to scope nodes (with_item tables i rest) ≡ items_failures from to scope nodes (with_item tables i no_items) ++ items_failures from to scope nodes rest
  first_and_rest scope nodes (Segment s) rest = ap (λ l. l ++ items_failures from to scope nodes rest) (sym (append-nil _))
  first_and_rest scope nodes i rest = ap (λ l. l ++ items_failures from to scope nodes rest) (sym (append-nil _))

  pub items_more : (scope : List Element) (nodes : profiles.Forest) (items : List Item) (k : ℕ) (i : Item) (first : List Failure) (old new : Vec declared.Failure) → k < length items → i ≡ get_or items k i → Notes old new (items_failures from to scope nodes (with_item tables i no_items)) →
      first ++ items_failures from to scope nodes (all_items tables items) ≡ failures old.items ++ items_failures from to scope nodes (all_items tables (drop k items)) →
      first ++ items_failures from to scope nodes (all_items tables items) ≡ failures new.items ++ items_failures from to scope nodes (all_items tables (drop (k + 1) items))
  items_more scope nodes items k i first old new low at notes h =
      h
      ∙ added_one (failures old.items) (failures new.items) (items_failures from to scope nodes (with_item tables i no_items)) (items_failures from to scope nodes (all_items tables (drop (k + 1) items))) (items_failures from to scope nodes (all_items tables (drop k items)))
      (ap (λ l. items_failures from to scope nodes (all_items tables l)) (front items k i low at) ∙ first_and_rest scope nodes i (all_items tables (drop (k + 1) items))) notes

  -- ---- a group, and a flat

  pub group_noted : (scope inner : List Element) (nodes below : profiles.Forest) (i : Item) (g : GroupItem) (is : List Item) (first middle last : Vec declared.Failure) → i ≡ Group g → is ≡ g.items.items → inner ≡ within scope (place g.place) → below ≡ nodes_of_child nodes g.child →
      NotesLevel tables inner g.line 0 below is first middle → Notes middle last (items_failures from to inner below (all_items tables is)) → Notes first last (items_failures from to scope nodes (with_item tables i no_items))
  group_noted scope inner nodes below i g is first middle last same items there under level inside =
      noted_twice (failures first.items) (failures middle.items) (failures last.items) _ _ level inside
      ∙ ap (λ l. failures first.items ++ l)
      ((λ j. level_failures (there j) g.line 0 (under j) (all_items tables (items j)) ++ items_failures from to (there j) (under j) (all_items tables (items j)))
      ∙ sym (append-nil (level_failures (within scope (place g.place)) g.line 0 (nodes_of_child nodes g.child) (all_items tables g.items.items) ++ items_failures from to (within scope (place g.place)) (nodes_of_child nodes g.child) (all_items tables g.items.items)))
      ∙ sym (ap (items_failures from to scope nodes) (ap (λ j. with_item tables j no_items) same ∙ group_items tables g no_items)))

  pub flat_noted : (scope inner : List Element) (nodes : profiles.Forest) (i : Item) (f : FlatItem) (is : List Item) (first last : Vec declared.Failure) → i ≡ Flat f → is ≡ f.items.items → inner ≡ within scope (place f.place) →
      Notes first last (items_failures from to inner nodes (all_items tables is)) → Notes first last (items_failures from to scope nodes (with_item tables i no_items))
  flat_noted scope inner nodes i f is first last same items there inside =
      inside
      ∙ ap (λ l. failures first.items ++ l)
      ((λ j. items_failures from to (there j) nodes (all_items tables (items j)))
      ∙ sym (append-nil (items_failures from to (within scope (place f.place)) nodes (all_items tables f.items.items)))
      ∙ sym (ap (items_failures from to scope nodes) (ap (λ j. with_item tables j no_items) same ∙ flat_items tables f no_items)))
