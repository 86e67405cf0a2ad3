-- What the items of a level give, one after the other.
use Rattle.std.proofs.Common.{get_or, ◌≡◌, ℕ, ◌+◌, ◌≤◌, ◌<◌, List, [], ◌∷◌, ◌++◌, refl, sym, ap, ◌∙◌, length, drop, subst, append-nil}
use Rattle.std.specs.Prelude.{flat_map}
use Rattle.std.specs.List.{AllByRecursion}
use Rattle.std.proofs.lemmas.List.{drop_all}
use Rattle.gw_er7.specs.Message.{SegmentValue}
use Rattle.gw_er7.specs.Building.{IsBegun}
use Rattle.gw_profile.specs.Shapes.{Forest}
use Rattle.gw_profile.specs.Seen.{forest}
use Rattle.gw_profile.specs.declared.node.Node.{Node}
use Rattle.gw_validate.specs.Fitting.{OccValue}
use Rattle.gw_maplang.specs.Shapes.{TableValue}
use Rattle.gw_resolve.specs.declared.resolved.Item.{Item, Segment, Group, Flat, Group', Flat'}
use Rattle.gw_resolve.specs.declared.resolved.GroupItem.{GroupItem}
use Rattle.gw_resolve.specs.declared.resolved.FlatItem.{FlatItem}
use Rattle.gw_resolve.specs.Places.{nodes_of_child}
use Rattle.gw_resolve.specs.Resolved.{Items, no_items, group_item, flat_item}
use Rattle.gw_resolve.specs.Seen.{place, some_condition, with_item, all_items}
use Rattle.gw_resolve.proofs.Rows.{group_items, flat_items}
use Rattle.gw_interp.specs.Occurrences.{Occurrence, at_place}
use Rattle.gw_interp.specs.own.Borrowed.{scope}
use Rattle.gw_interp.specs.own.Filling.{message_of}
use Rattle.gw_interp.specs.Meaning.{ForEach, Give}
use Rattle.gw_interp.specs.own.Ready.{MayGive, names_given, MayBegin, Adds}
use Rattle.gw_interp.specs.own.Sourced.{is_met}
use Rattle.gw_interp.specs.own.Parts.{names_so, MaySo, GivesSo, items_names, MayItems, ItemsGive}
use Rattle.gw_interp.proofs.Naming.{given_names}
use Rattle.gw_interp.proofs.Within.{names_chosen, may_chosen, each_chosen}
use Rattle.gw_interp.proofs.Giving.{IsPartDone, more_done, all_done, begins_next, next_drop}

pub adds_as : (P Q : List SegmentValue → Type 0) (old new : List SegmentValue) → ((list : List SegmentValue) → P list → Q list) → Adds P old new → Adds Q old new
adds_as P Q old new so a = record { list = a.list; joined = a.joined; holds = so a.list a.holds }

module _ (m : List SegmentValue) (os : List Occurrence) (target : Forest) (tables : List TableValue) where
  -- ---- an item, and those behind it

  names_split : (i : Item) (rest : Items) → names_given m os target (with_item tables i rest) ≡ names_given m os target (with_item tables i no_items) ++ names_given m os target rest
  names_split (Segment s) rest = ap (λ l. l ++ names_given m os target rest) (sym (append-nil _))
  names_split (Group' line child from asked shape row) rest = ap (λ l. l ++ names_given m os target rest) (sym (append-nil _))
  names_split (Flat' line from asked shape row) rest = ap (λ l. l ++ names_given m os target rest) (sym (append-nil _))

  may_one : (i : Item) (rest : Items) → MayGive m os target (with_item tables i rest) → MayGive m os target (with_item tables i no_items)
  may_one (Segment s) rest h = (h.0, tt)
  may_one (Group' line child from asked shape row) rest h = (h.0, tt)
  may_one (Flat' line from asked shape row) rest h = (h.0, tt)

  may_rest : (i : Item) (rest : Items) → MayGive m os target (with_item tables i rest) → MayGive m os target rest
  may_rest (Segment s) rest h = h.1
  may_rest (Group' line child from asked shape row) rest h = h.1
  may_rest (Flat' line from asked shape row) rest h = h.1

  whole : (front back list : List SegmentValue) → list ≡ front ++ back → back ≡ [] → (more : List SegmentValue) → list ++ more ≡ front ++ more
  whole front back list joined none more = ap (λ l. l ++ more) (joined ∙ ap (λ b. front ++ b) none ∙ append-nil front)

  give_then : (i : Item) (rest : Items) (list back : List SegmentValue) → Give m os target (with_item tables i no_items) list → Give m os target rest back → Give m os target (with_item tables i rest) (list ++ back)
  give_then (Segment s) rest list back g h = record { front = g.front; back = back; joined = whole g.front g.back list g.joined g.there back; here = g.here; there = h }
  give_then (Group' line child from asked shape row) rest list back g h = record { front = g.front; back = back; joined = whole g.front g.back list g.joined g.there back; here = g.here; there = h }
  give_then (Flat' line from asked shape row) rest list back g h = record { front = g.front; back = back; joined = whole g.front g.back list g.joined g.there back; here = g.here; there = h }

  -- ---- a level

  abbrev Gives : List Item → List SegmentValue → Type 0
  Gives is = Give m os target (all_items tables is)

  abbrev names_at : List Item → List (List ℕ)
  names_at is = names_given m os target (all_items tables is)

  -- the first n items have given, and the others may
  pub record IsLevelDone (is : List Item) (n : ℕ) (old now : List SegmentValue) : Type 0 where
    pub done : IsPartDone (Gives is) (Gives (drop n is)) (names_at is) (names_at (drop n is)) old now
    pub may : MayGive m os target (all_items tables (drop n is))

  next_items : (is : List Item) (n : ℕ) (i : Item) → n < length is → i ≡ get_or is n i → all_items tables (drop n is) ≡ with_item tables i (all_items tables (drop (n + 1) is))
  next_items is n i h e = ap (all_items tables) (next_drop is n i h e)

  next_named : (is : List Item) (n : ℕ) (i : Item) → n < length is → i ≡ get_or is n i → names_at (drop n is) ≡ names_given m os target (with_item tables i no_items) ++ names_at (drop (n + 1) is)
  next_named is n i h e = ap (names_given m os target) (next_items is n i h e) ∙ names_split i (all_items tables (drop (n + 1) is))

  pub item_begins : (is : List Item) (n : ℕ) (i : Item) (old now : List SegmentValue) → n < length is → i ≡ get_or is n i → IsLevelDone is n old now → MayBegin old (names_at is) → MayBegin now (names_given m os target (with_item tables i no_items))
  item_begins is n i old now h e d may = begins_next _ _ (names_at is) (names_at (drop n is)) _ (names_at (drop (n + 1) is)) old now d.done (next_named is n i h e) may

  pub item_may : (is : List Item) (n : ℕ) (i : Item) (old now : List SegmentValue) → n < length is → i ≡ get_or is n i → IsLevelDone is n old now → MayGive m os target (with_item tables i no_items)
  item_may is n i old now h e d = may_one i (all_items tables (drop (n + 1) is)) (subst (MayGive m os target) (next_items is n i h e) d.may)

  pub item_more : (is : List Item) (n : ℕ) (i : Item) (old now new : List SegmentValue) → n < length is → i ≡ get_or is n i → IsLevelDone is n old now → Adds (Give m os target (with_item tables i no_items)) now new → IsBegun new → IsLevelDone is (n + 1) old new
  item_more is n i old now new h e d a lawful =
      record {
        done = more_done (Gives is) (Gives (drop n is)) (Gives (drop (n + 1) is)) (Give m os target (with_item tables i no_items)) (names_at is) (names_at (drop n is)) (names_given m os target (with_item tables i no_items)) (names_at (drop (n + 1) is)) old now new d.done
            (λ list back here there. subst (λ f. Give m os target f (list ++ back)) (sym (next_items is n i h e)) (give_then i (all_items tables (drop (n + 1) is)) list back here there))
            (λ list here. given_names m os target (with_item tables i no_items) list here) (next_named is n i h e) a lawful;
        may = may_rest i (all_items tables (drop (n + 1) is)) (subst (MayGive m os target) (next_items is n i h e) d.may);
      }

  pub level_given : (is : List Item) (n : ℕ) (old now : List SegmentValue) → length is ≤ n → IsLevelDone is n old now → Adds (Gives is) old now
  level_given is n old now h d = all_done _ _ _ _ old now d.done (subst (λ l. Gives l []) (sym (drop_all n is h)) refl)

  -- ---- groups and flats

  module _ (item : Item) (g : GroupItem) (inner : Forest) (is : List Item) (same : item ≡ Group g) (inner_is : inner ≡ nodes_of_child target g.child) (is_its : is ≡ g.items.items) where
    group_whole : with_item tables item no_items ≡ group_item (record { line = g.line; child = g.child; place = place g.place; condition = some_condition g.condition }) (all_items tables is) no_items
    group_whole =
        ap (λ i. with_item tables i no_items) same ∙ group_items tables g no_items
        ∙ ap (λ l. group_item (record { line = g.line; child = g.child; place = place g.place; condition = some_condition g.condition }) (all_items tables l) no_items) (sym is_its)

    pub group_begins : (old : List SegmentValue) → MayBegin old (names_given m os target (with_item tables item no_items)) → MayBegin old (flat_map (λ o. names_so (is_met m (o ∷ os) (some_condition g.condition)) (names_given m (o ∷ os) inner (all_items tables is))) (at_place os (place g.place)))
    group_begins old may =
        subst (λ f. MayBegin old (flat_map (λ o. names_so (is_met m (o ∷ os) (some_condition g.condition)) (names_given m (o ∷ os) f (all_items tables is))) (at_place os (place g.place)))) (sym inner_is)
        (subst (MayBegin old)
        (ap (names_given m os target) group_whole ∙ append-nil _
        ∙ names_chosen m os (some_condition g.condition) (λ o. names_given m (o ∷ os) (nodes_of_child target g.child) (all_items tables is)) (at_place os (place g.place))) may)

    pub group_may : MayGive m os target (with_item tables item no_items) → AllByRecursion (λ o. MaySo (is_met m (o ∷ os) (some_condition g.condition)) (MayGive m (o ∷ os) inner (all_items tables is))) (at_place os (place g.place))
    group_may may =
        subst (λ f. AllByRecursion (λ o. MaySo (is_met m (o ∷ os) (some_condition g.condition)) (MayGive m (o ∷ os) f (all_items tables is))) (at_place os (place g.place))) (sym inner_is)
        (may_chosen m os (some_condition g.condition) (λ o. MayGive m (o ∷ os) (nodes_of_child target g.child) (all_items tables is)) (at_place os (place g.place)) (subst (MayGive m os target) group_whole may).0)

    group_given : (list : List SegmentValue) → ForEach (λ o. GivesSo (is_met m (o ∷ os) (some_condition g.condition)) (Give m (o ∷ os) inner (all_items tables is))) (at_place os (place g.place)) list → Give m os target (with_item tables item no_items) list
    group_given list each =
        subst (λ f. Give m os target f list) (sym group_whole)
        (record {
          front = list;
          back = [];
          joined = sym (append-nil list);
          here =
              each_chosen m os (some_condition g.condition) (λ o. Give m (o ∷ os) (nodes_of_child target g.child) (all_items tables is)) (at_place os (place g.place)) list
              (subst (λ f. ForEach (λ o. GivesSo (is_met m (o ∷ os) (some_condition g.condition)) (Give m (o ∷ os) f (all_items tables is))) (at_place os (place g.place)) list) inner_is each);
          there = refl;
        })

    pub group_gives : (old new : List SegmentValue) → Adds (ForEach (λ o. GivesSo (is_met m (o ∷ os) (some_condition g.condition)) (Give m (o ∷ os) inner (all_items tables is))) (at_place os (place g.place))) old new → Adds (Give m os target (with_item tables item no_items)) old new
    group_gives old new = adds_as _ _ old new group_given

  module _ (item : Item) (f : FlatItem) (is : List Item) (same : item ≡ Flat f) (is_its : is ≡ f.items.items) where
    flat_whole : with_item tables item no_items ≡ flat_item (record { line = f.line; place = place f.place; condition = some_condition f.condition }) (all_items tables is) no_items
    flat_whole =
        ap (λ i. with_item tables i no_items) same ∙ flat_items tables f no_items
        ∙ ap (λ l. flat_item (record { line = f.line; place = place f.place; condition = some_condition f.condition }) (all_items tables l) no_items) (sym is_its)

    pub flat_begins : (old : List SegmentValue) → MayBegin old (names_given m os target (with_item tables item no_items)) → MayBegin old (flat_map (λ o. names_so (is_met m (o ∷ os) (some_condition f.condition)) (names_given m (o ∷ os) target (all_items tables is))) (at_place os (place f.place)))
    flat_begins old may =
        subst (MayBegin old)
        (ap (names_given m os target) flat_whole ∙ append-nil _
        ∙ names_chosen m os (some_condition f.condition) (λ o. names_given m (o ∷ os) target (all_items tables is)) (at_place os (place f.place))) may

    pub flat_may : MayGive m os target (with_item tables item no_items) → AllByRecursion (λ o. MaySo (is_met m (o ∷ os) (some_condition f.condition)) (MayGive m (o ∷ os) target (all_items tables is))) (at_place os (place f.place))
    flat_may may = may_chosen m os (some_condition f.condition) (λ o. MayGive m (o ∷ os) target (all_items tables is)) (at_place os (place f.place)) (subst (MayGive m os target) flat_whole may).0

    flat_given : (list : List SegmentValue) → ForEach (λ o. GivesSo (is_met m (o ∷ os) (some_condition f.condition)) (Give m (o ∷ os) target (all_items tables is))) (at_place os (place f.place)) list → Give m os target (with_item tables item no_items) list
    flat_given list each =
        subst (λ i. Give m os target i list) (sym flat_whole)
        (record {
          front = list;
          back = [];
          joined = sym (append-nil list);
          here = each_chosen m os (some_condition f.condition) (λ o. Give m (o ∷ os) target (all_items tables is)) (at_place os (place f.place)) list each;
          there = refl;
        })

    pub flat_gives : (old new : List SegmentValue) → Adds (ForEach (λ o. GivesSo (is_met m (o ∷ os) (some_condition f.condition)) (Give m (o ∷ os) target (all_items tables is))) (at_place os (place f.place))) old new → Adds (Give m os target (with_item tables item no_items)) old new
    flat_gives old new = adds_as _ _ old new flat_given

-- ---- a level, where these occurrences are walked in the program

-- the first n items have given, and what is walked is as it was
pub record IsItemsDone (nodes : List Node) (tables : List TableValue) (is : List Item) (os : List OccValue) (n : ℕ) (old now : List SegmentValue) (walked : List OccValue) : Type 0 where
  pub kept : walked ≡ os
  pub level : IsLevelDone (message_of os) (scope os) (forest nodes) tables is n old now

module _ (nodes : List Node) (tables : List TableValue) (is : List Item) (os : List OccValue) where
  module _ (n : ℕ) (i : Item) (old now : List SegmentValue) (walked : List OccValue) (h : n < length is) (e : i ≡ get_or is n i) (d : IsItemsDone nodes tables is os n old now walked) where
    pub next_begins : MayBegin old (items_names nodes (all_items tables is) os) → MayBegin now (items_names nodes (with_item tables i no_items) walked)
    next_begins may =
        subst (λ w. MayBegin now (items_names nodes (with_item tables i no_items) w)) (sym d.kept)
        (item_begins (message_of os) (scope os) (forest nodes) tables is n i old now h e d.level may)

    pub next_may : MayItems nodes (with_item tables i no_items) walked
    next_may = subst (MayItems nodes (with_item tables i no_items)) (sym d.kept) (item_may (message_of os) (scope os) (forest nodes) tables is n i old now h e d.level)

    pub next_item : (new : List SegmentValue) (walked_new : List OccValue) → walked_new ≡ walked → Adds (ItemsGive nodes (with_item tables i no_items) walked) now new → IsBegun new → IsItemsDone nodes tables is os (n + 1) old new walked_new
    next_item new walked_new same a lawful =
        record {
          kept = same ∙ d.kept;
          level = item_more (message_of os) (scope os) (forest nodes) tables is n i old now new h e d.level (subst (λ w. Adds (ItemsGive nodes (with_item tables i no_items) w) now new) d.kept a) lawful;
        }

  pub all_given : (n : ℕ) (old now : List SegmentValue) (walked : List OccValue) → length is ≤ n → IsItemsDone nodes tables is os n old now walked → Adds (ItemsGive nodes (all_items tables is) os) old now
  all_given n old now walked h d = level_given (message_of os) (scope os) (forest nodes) tables is n old now h d.level
