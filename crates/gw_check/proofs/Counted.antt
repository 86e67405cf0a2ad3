-- How often the items of a level come, and for which node.
use Rattle.std.proofs.lemmas.List.{take_more, drop_all}
use Rattle.std.proofs.Common.{◌≡◌, ◌==◌, ℕ, ◌+◌, ◌++◌, take, true, false, List, [], ◌∷◌, Option, refl, sym, ap, ◌∙◌, drop, length, ◌<◌, ◌≤◌, ◌-◌, get_or, subst, arith}
use Rattle.gw_maplang.specs.Shapes.{TableValue}
use Rattle.gw_resolve.specs.declared.resolved.FlatItem.{FlatItem}
use Rattle.gw_resolve.specs.declared.resolved.Item.{Item, Segment, Flat}
use Rattle.gw_resolve.specs.declared.interval.Interval as declared
use Rattle.gw_resolve.specs.Intervals.{sum, product}
use Rattle.gw_resolve.specs.Places.{Element, count_at, within}
use Rattle.gw_resolve.specs.Resolved.{Items, no_items, first_child}
use Rattle.gw_leaves.specs.Counts.{chosen_count}
use Rattle.gw_resolve.specs.Seen.{interval, saturated, place, some_condition, with_item, all_items, ChildOf}
use Rattle.gw_check.specs.own.ItemByItem.{first_count, CountsOne, CountsAll, Leads}
use Rattle.gw_check.specs.Levels.{is_of, its, beyond, has_no_item, items_count}
use Rattle.std.proofs.lemmas.Bool.{ne_eqb}
use Rattle.gw_resolve.proofs.Saturation.{sum_saturated, product_saturated}
use Rattle.gw_resolve.proofs.Noting.{front}
use Rattle.gw_resolve.proofs.Rows.{flat_items}
use Rattle.gw_resolve.proofs.Built.{with_items, with_none, with_more}

-- one item more
count_more : (scope : List Element) (i : Item) (is : List Item) (one more total : declared.Interval) → CountsOne scope i one → CountsAll scope is more → interval total ≡ saturated (sum (interval one) (interval more)) → CountsAll scope (i ∷ is) total
count_more scope i is one more total a b e tables =
    e ∙ ap (λ c. saturated (sum c (interval more))) (a tables) ∙ ap (λ c. saturated (sum (saturated (first_count scope (with_item tables i no_items))) c)) (b tables)
    ∙ sum_saturated (first_count scope (with_item tables i no_items)) (items_count scope (all_items tables is))
    ∙ go i
  where
    go : (i : Item) → saturated (sum (first_count scope (with_item tables i no_items)) (items_count scope (all_items tables is))) ≡ saturated (items_count scope (with_item tables i (all_items tables is)))
    go (Segment s) = refl
    go i = refl

pub count_flat : (scope inner : List Element) (i : Item) (f : FlatItem) (at each c : declared.Interval) → i ≡ Flat f → interval at ≡ saturated (chosen_count (some_condition f.condition) (count_at scope (place f.place))) → inner ≡ within scope (place f.place) → CountsAll inner f.items.items each → interval c ≡ saturated (product (interval at) (interval each)) → CountsOne scope i c
count_flat scope inner i f at each c is often there more e tables =
    e ∙ ap (λ x. saturated (product x (interval each))) often
    ∙ ap (λ x. saturated (product (saturated (chosen_count (some_condition f.condition) (count_at scope (place f.place)))) x)) (more tables ∙ ap (λ s. saturated (items_count s (all_items tables f.items.items))) there)
    ∙ product_saturated (chosen_count (some_condition f.condition) (count_at scope (place f.place))) (items_count (within scope (place f.place)) (all_items tables f.items.items))
    ∙ sym (ap (λ x. saturated (first_count scope x)) (ap (λ j. with_item tables j no_items) is ∙ flat_items tables f no_items))

-- ---- from the last item on

behind : (items : List Item) (left : ℕ) (i : Item) → 0 < left → left ≤ length items → i ≡ get_or items (left - 1) i → drop (left - 1) items ≡ i ∷ drop left items
behind items left i some within is =
    let low : left - 1 < length items = omega (arith, some, within) in
    let next : left - 1 + 1 ≡ left = omega (arith, some) in
    front items (left - 1) i low is ∙ ap (λ n. i ∷ drop n items) next

pub count_step : (scope : List Element) (items : List Item) (left : ℕ) (i : Item) (one more total : declared.Interval) → 0 < left → left ≤ length items → i ≡ get_or items (left - 1) i → CountsOne scope i one → CountsAll scope (drop left items) more → interval total ≡ saturated (sum (interval one) (interval more)) → CountsAll scope (drop (left - 1) items) total
count_step scope items left i one more total some within is a b e =
    subst (λ l. CountsAll scope l total) (sym (behind items left i some within is)) (count_more scope i (drop left items) one more total a b e)

pub count_done : (scope : List Element) (items : List Item) (left : ℕ) (total : declared.Interval) → left ≤ 0 → CountsAll scope (drop left items) total → CountsAll scope items total
count_done scope items left total none h = let zero : left ≡ 0 = omega (arith, none) in subst (λ n. CountsAll scope (drop n items) total) zero h

-- ---- the items of one node

-- an item of node j, and one of another
one_of : (tables : List TableValue) (j : ℕ) (i : Item) (rest : Items) → is_of j (first_child (with_item tables i no_items)) ≡ true → (its j (with_item tables i rest) ≡ with_item tables i (its j rest)) × (beyond j (with_item tables i rest) ≡ beyond j rest)
one_of tables j (Segment s) rest e = rw e (refl, refl)
one_of tables j i rest e = rw e (refl, refl)

other_of : (tables : List TableValue) (j : ℕ) (i : Item) (rest : Items) → is_of j (first_child (with_item tables i no_items)) ≡ false → (its j (with_item tables i rest) ≡ no_items) × (beyond j (with_item tables i rest) ≡ with_item tables i rest)
other_of tables j (Segment s) rest e = rw e (refl, refl)
other_of tables j i rest e = rw e (refl, refl)

-- the first n items are of node j
pub record LeadsSoFar (j : ℕ) (is : List Item) (n : ℕ) : Type 0 where
  pub these : (tables : List TableValue) → its j (all_items tables is) ≡ with_items tables (take n is) (its j (all_items tables (drop n is)))
  pub others : (tables : List TableValue) → beyond j (all_items tables is) ≡ beyond j (all_items tables (drop n is))

pub leads_start : (j : ℕ) (is : List Item) → LeadsSoFar j is 0
leads_start j is = record { these = λ tables. refl; others = λ tables. refl }

pub leads_more : (j : ℕ) (is : List Item) (n : ℕ) (i : Item) (c : Option ℕ) → n < length is → i ≡ get_or is n i → ChildOf i c → is_of j c ≡ true → LeadsSoFar j is n → LeadsSoFar j is (n + 1)
leads_more j is n i c low at child same h =
    record {
      these = λ tables.
          h.these tables ∙ ap (λ l. with_items tables (take n is) (its j (all_items tables l))) (front is n i low at)
          ∙ ap (with_items tables (take n is)) (one_of tables j i (all_items tables (drop (n + 1) is)) (this tables)).0
          ∙ sym (with_more tables (take n is) i (its j (all_items tables (drop (n + 1) is))))
          ∙ ap (λ l. with_items tables l (its j (all_items tables (drop (n + 1) is)))) taken;
      others = λ tables.
          h.others tables ∙ ap (λ l. beyond j (all_items tables l)) (front is n i low at) ∙ (one_of tables j i (all_items tables (drop (n + 1) is)) (this tables)).1;
    }
  where
    this : (tables : List TableValue) → is_of j (first_child (with_item tables i no_items)) ≡ true
    this tables = ap (is_of j) (sym (child tables)) ∙ same

    taken : take n is ++ i ∷ [] ≡ take (n + 1) is
    taken = ap (λ x. take n is ++ x ∷ []) at ∙ sym (take_more is n i low)

pub leads_here : (j : ℕ) (is : List Item) (n : ℕ) (i : Item) (c : Option ℕ) → n < length is → i ≡ get_or is n i → ChildOf i c → is_of j c ≡ false → LeadsSoFar j is n → Leads j is n
leads_here j is n i c low at child other h =
    record {
      within = omega (arith, low);
      these = λ tables.
          sym (h.these tables ∙ ap (λ l. with_items tables (take n is) (its j (all_items tables l))) (front is n i low at)
          ∙ ap (with_items tables (take n is)) (other_of tables j i (all_items tables (drop (n + 1) is)) (this tables)).0 ∙ with_none tables (take n is));
      others = λ tables.
          sym (h.others tables ∙ ap (λ l. beyond j (all_items tables l)) (front is n i low at) ∙ (other_of tables j i (all_items tables (drop (n + 1) is)) (this tables)).1 ∙ ap (all_items tables) (sym (front is n i low at)));
    }
  where
    this : (tables : List TableValue) → is_of j (first_child (with_item tables i no_items)) ≡ false
    this tables = ap (is_of j) (sym (child tables)) ∙ other

pub leads_to_end : (j : ℕ) (is : List Item) (n : ℕ) → n ≤ length is → length is ≤ n → LeadsSoFar j is n → Leads j is (length is)
leads_to_end j is n low high h =
    let same : n ≡ length is = omega (arith, low, high) in
    let none = drop_all n is high in
    subst (Leads j is) same (record {
      within = low;
      these = λ tables. sym (h.these tables ∙ ap (λ l. with_items tables (take n is) (its j (all_items tables l))) none ∙ with_none tables (take n is));
      others = λ tables. sym (h.others tables ∙ ap (λ l. beyond j (all_items tables l)) none ∙ ap (all_items tables) (sym none));
    })

pub none_there : (tables : List TableValue) (is : List Item) → (length is == 0) ≡ has_no_item (all_items tables is)
none_there tables [] = refl
none_there tables (i ∷ is) = ne_eqb (length (i ∷ is)) 0 (λ e. omega (arith, e)) ∙ sym (go i)
  where
    go : (i : Item) → has_no_item (with_item tables i (all_items tables is)) ≡ false
    go (Segment s) = refl
    go i = refl
