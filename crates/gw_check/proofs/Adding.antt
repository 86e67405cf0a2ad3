-- What lines make, taken together.
use Rattle.std.proofs.Common.{◌≡◌, ℕ, ◌+◌, ◌<◌, List, [], ◌∷◌, ◌++◌, drop, get_or, sym, ap, ◌∙◌, map, Some, None, option_map, length}
use Rattle.std.specs.Prelude.{option_to_list}
use Rattle.std.proofs.lemmas.List.{append-nil, append_assoc}
use Rattle.gw_maplang.specs.Shapes.{TableValue}
use Rattle.gw_resolve.specs.declared.resolved.GroupItem.{GroupItem}
use Rattle.gw_resolve.specs.declared.resolved.FlatItem.{FlatItem}
use Rattle.gw_resolve.specs.declared.resolved.SegmentItem.{SegmentItem}
use Rattle.gw_resolve.specs.declared.resolved.Item.{Item, Segment, Group, Flat}
use Rattle.gw_resolve.specs.declared.resolved.ScopePath as places
use Rattle.gw_resolve.specs.declared.resolved.Rule as rules_of
use Rattle.gw_resolve.specs.Resolved.{Items, no_items, first_child}
use Rattle.gw_resolve.specs.Seen.{place, some_condition, rule, with_item, all_items}
use Rattle.gw_resolve.proofs.Noting.{front, added_one}
use Rattle.gw_resolve.proofs.Rows.{group_items, flat_items}
use Rattle.gw_resolve.specs.Positions.{Position, inner, inner_if}
use Rattle.gw_check.specs.Seen.{Adds, all_sites, segment_item}
use Rattle.gw_check.specs.Sites.{Site, unsaid, rules_sites, node_sites, node_origin, origin_if, condition_sites, each_sites, segment_sites, items_sites, site_of}
use Rattle.gw_check.specs.declared.site.Site as declared

pub added_twice : (tables : List TableValue) (old mid new : List declared.Site) (a b : List Site) → Adds tables old mid a → Adds tables mid new b → Adds tables old new (a ++ b)
added_twice tables old mid new a b h k = k ∙ ap (λ l. l ++ b) h ∙ append_assoc (all_sites tables old) a b

-- ---- a segment

module _ (tables : List TableValue) (scope : List Position) (at : Position) (s : SegmentItem) (old first mid new : List declared.Site) where
  -- that is always made
  pub always_made : (list : List rules_of.Rule) → s.place ≡ None → list ≡ s.rules.items → Adds tables old first (site_of s.line at 0 0 0 unsaid ∷ []) →
      Adds tables first mid (condition_sites scope s.line at (some_condition s.condition)) → Adds tables mid new (rules_sites scope at (map (rule tables) list)) → Adds tables old new (segment_sites scope at (segment_item tables s))
  always_made list none same h a k = added_twice tables old mid new _ _ (added_twice tables old first mid _ _ h a) k ∙ ap (λ l. all_sites tables old ++ l) (λ i.
      let p = option_map place (sym none i) in
      (node_sites s.line at (origin_if scope p) ++ condition_sites (inner_if scope p) s.line at (some_condition s.condition)) ++ rules_sites (inner_if scope p) at (map (rule tables) (same i)))

  -- that is made for each occurrence at a place
  pub walked_made : (within asked : List Position) (p : places.ScopePath) (list : List rules_of.Rule) → s.place ≡ Some p → list ≡ s.rules.items → within ≡ inner scope (place p) → asked ≡ inner scope (place p) →
      Adds tables old first (node_sites s.line at (node_origin scope (place p))) → Adds tables first mid (condition_sites asked s.line at (some_condition s.condition)) →
      Adds tables mid new (rules_sites within at (map (rule tables) list)) → Adds tables old new (segment_sites scope at (segment_item tables s))
  walked_made within asked p list some same there here h a k = added_twice tables old mid new _ _ (added_twice tables old first mid _ _ h a) k ∙ ap (λ l. all_sites tables old ++ l)
      ((λ i. (node_sites s.line at (node_origin scope (place p)) ++ condition_sites (here i) s.line at (some_condition s.condition)) ++ rules_sites (there i) at (map (rule tables) (same i)))
      ∙ ap (λ q. (node_sites s.line at (origin_if scope q) ++ condition_sites (inner_if scope q) s.line at (some_condition s.condition)) ++ rules_sites (inner_if scope q) at (map (rule tables) s.rules.items)) (ap (option_map place) (sym some)))

-- ---- items

module _ (tables : List TableValue) (scope : List Position) (above : Position) where
  one_made : (i : Item) (rest : Items) → items_sites scope above (with_item tables i rest) ≡ items_sites scope above (with_item tables i no_items) ++ items_sites scope above rest
  one_made (Segment s) rest = search (append_assoc)
  one_made i rest = search (append_assoc)

  pub item_made : (items : List Item) (k : ℕ) (i : Item) (first old new : List declared.Site) → k < length items → i ≡ get_or items k i → Adds tables old new (items_sites scope above (with_item tables i no_items)) →
      all_sites tables first ++ items_sites scope above (all_items tables items) ≡ all_sites tables old ++ items_sites scope above (all_items tables (drop k items)) →
      all_sites tables first ++ items_sites scope above (all_items tables items) ≡ all_sites tables new ++ items_sites scope above (all_items tables (drop (k + 1) items))
  item_made items k i first old new low at more h =
      h
      ∙ added_one (all_sites tables old) (all_sites tables new) (items_sites scope above (with_item tables i no_items)) (items_sites scope above (all_items tables (drop (k + 1) items))) (items_sites scope above (all_items tables (drop k items)))
      (ap (λ l. items_sites scope above (all_items tables l)) (front items k i low at) ∙ one_made i (all_items tables (drop (k + 1) items))) more

  pub group_made : (within asked : List Position) (at at' at'' : Position) (i : Item) (g : GroupItem) (is : List Item) (old first mid new : List declared.Site) → i ≡ Group g → is ≡ g.items.items → within ≡ inner scope (place g.place) → asked ≡ inner scope (place g.place) →
      at ≡ above ++ g.child ∷ [] → at' ≡ above ++ g.child ∷ [] → at'' ≡ above ++ g.child ∷ [] →
      Adds tables old first (node_sites g.line at (node_origin scope (place g.place))) → Adds tables first mid (condition_sites asked g.line at' (some_condition g.condition)) →
      Adds tables mid new (items_sites within at'' (all_items tables is)) → Adds tables old new (items_sites scope above (with_item tables i no_items))
  group_made within asked at at' at'' i g is old first mid new same items walked walked' there there' there'' h a k =
      added_twice tables old mid new _ _ (added_twice tables old first mid _ _ h a) k
      ∙ ap (λ l. all_sites tables old ++ l)
      ((λ x. (node_sites g.line (there x) (node_origin scope (place g.place)) ++ condition_sites (walked' x) g.line (there' x) (some_condition g.condition)) ++ items_sites (walked x) (there'' x) (all_items tables (items x)))
      ∙ sym (append-nil (each_sites scope g.line (above ++ g.child ∷ []) (place g.place) (some_condition g.condition) ++ items_sites (inner scope (place g.place)) (above ++ g.child ∷ []) (all_items tables g.items.items)))
      ∙ sym (ap (items_sites scope above) (ap (λ j. with_item tables j no_items) same ∙ group_items tables g no_items)))

  pub flat_made : (within asked : List Position) (at at' : Position) (i : Item) (f : FlatItem) (is js : List Item) (old first mid new : List declared.Site) → i ≡ Flat f → is ≡ f.items.items → js ≡ f.items.items → within ≡ inner scope (place f.place) → asked ≡ inner scope (place f.place) →
      at ≡ above ++ option_to_list (first_child (all_items tables js)) → at' ≡ above ++ option_to_list (first_child (all_items tables js)) →
      Adds tables old first (node_sites f.line at (node_origin scope (place f.place))) → Adds tables first mid (condition_sites asked f.line at' (some_condition f.condition)) →
      Adds tables mid new (items_sites within above (all_items tables is)) → Adds tables old new (items_sites scope above (with_item tables i no_items))
  flat_made within asked at at' i f is js old first mid new same items jtems walked walked' there there' h a k =
      added_twice tables old mid new _ _ (added_twice tables old first mid _ _ h a) k
      ∙ ap (λ l. all_sites tables old ++ l)
      ((λ x. (node_sites f.line (made there x) (node_origin scope (place f.place)) ++ condition_sites (walked' x) f.line (made there' x) (some_condition f.condition)) ++ items_sites (walked x) above (all_items tables (items x)))
      ∙ sym (append-nil (each_sites scope f.line (above ++ option_to_list (first_child (all_items tables f.items.items))) (place f.place) (some_condition f.condition) ++ items_sites (inner scope (place f.place)) above (all_items tables f.items.items)))
      ∙ sym (ap (items_sites scope above) (ap (λ j. with_item tables j no_items) same ∙ flat_items tables f no_items)))
    where
      made : {p : Position} → p ≡ above ++ option_to_list (first_child (all_items tables js)) → p ≡ above ++ option_to_list (first_child (all_items tables f.items.items))
      made e = e ∙ ap (λ l. above ++ option_to_list (first_child (all_items tables l))) jtems
