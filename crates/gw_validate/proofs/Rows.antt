-- What is kept of the nodes that occur, as a tree.
use Rattle.std.proofs.Common.{◌≡◌, ◌≢◌, ◌==◌, ℕ, zero, suc, ◌+◌, ◌<◌, ◌≤◌, true, false, if◌then◌else◌, List, [], ◌∷◌, ◌++◌, Option, Some, None, Ok, Err, refl, sym, ap, ◌∙◌, subst, arith, length, get_or, take, drop, Global, ⊎_elim}
use Rattle.std.proofs.lemmas.Grind.{common_steps}
use Rattle.std.proofs.lemmas.Bool.{cases_lt}
use Rattle.std.proofs.lemmas.Bool.Decides.{nat_tests}
use Rattle.std.proofs.lemmas.Cmp.{ranked}
use Rattle.std.specs.List.{AllByRecursion}
use Rattle.std.specs.List.Sorted.{IsBinarySearchResult}
use Rattle.std.specs.Ordering.{nat_cmp, ordering_index}
use Rattle.std.specs.declared.vec.Vec.{Vec}
use Rattle.gw_profile.specs.declared.node.Node.{Node, Seg, Group'}
use Rattle.gw_profile.specs.Shapes.{Forest, nothing, segment, group}
use Rattle.gw_profile.specs.Seen.{forest, node_forest, row_forest}
use Rattle.gw_validate.specs.declared.occurrences.Occurrences.{Occurrences, Segments, OneGroup, Groups, Groups', items_hidden-the_row-Found-0}
use Rattle.gw_validate.specs.declared.occurrences.Child.{Child}
use Rattle.gw_validate.specs.declared.occurrences.Found.{Found}
use Rattle.gw_validate.specs.Trees.{Tree, leaf, segments, groups, no_trees, trees, flatten, flatten_all}
use Rattle.gw_validate.specs.own.Joining.{append_tree, append_trees}
use Rattle.gw_validate.specs.own.Occurring.{Rising, numbered, children_of, kept, numbers_of, found_of, each_tree, tree_from, AreOrdered, IsOrdered, IsUpTo}

-- ---- lists

pub all_two : {X : Type 0} (P : X → Type 0) (xs ys : List X) → AllByRecursion P xs → AllByRecursion P ys → AllByRecursion P (xs ++ ys)
all_two P [] ys a b = b
all_two P (x ∷ xs) ys a b = (a.0, all_two P xs ys a.1 b)

pub all_at : {X : Type 0} (P : X → Type 0) (xs : List X) (i : ℕ) (x : X) → AllByRecursion P xs → i < length xs → x ≡ get_or xs i x → P x
all_at P [] i x a lt at = absurd (omega (arith, lt))
all_at P (y ∷ xs) zero x a lt at = subst P (sym at) a.0
all_at P (y ∷ xs) (suc i) x a lt at = all_at P xs i x a.1 (omega (arith, lt)) at

pub all_first : {X : Type 0} (P : X → Type 0) (n : ℕ) (xs : List X) → AllByRecursion P xs → AllByRecursion P (take n xs)
all_first P zero xs a = tt
all_first P (suc n) [] a = tt
all_first P (suc n) (x ∷ xs) a = (a.0, all_first P n xs a.1)

pub all_behind : {X : Type 0} (P : X → Type 0) (n : ℕ) (xs : List X) → AllByRecursion P xs → AllByRecursion P (drop n xs)
all_behind P zero xs a = a
all_behind P (suc n) [] a = tt
all_behind P (suc n) (x ∷ xs) a = all_behind P n xs a.1

-- ---- children whose numbers rise

same_number : (n k : ℕ) → n ≡ k → (n == k) ≡ true
same_number n k h = grind (arith, common_steps)

other_number : (n k : ℕ) → n ≢ k → (n == k) ≡ false
other_number n k h = grind (arith, common_steps)

module _ (d : Child) where
  rising_apart : (cs : List Child) (j i : ℕ) → Rising cs → j < i → i < length cs → (get_or cs j d).node < (get_or cs i d).node
  rising_apart [] j i r below lt = absurd (omega (arith, lt))
  rising_apart (c ∷ cs) zero zero r below lt = absurd (omega (arith, below))
  rising_apart (c ∷ cs) zero (suc i) r below lt = above cs i r.0 (omega (arith, lt))
    where
      above : (ms : List Child) (i : ℕ) → AllByRecursion (λ m. c.node < m.node) ms → i < length ms → c.node < (get_or ms i d).node
      above [] i a lt = absurd (omega (arith, lt))
      above (m ∷ ms) zero a lt = a.0
      above (m ∷ ms) (suc i) a lt = above ms i a.1 (omega (arith, lt))
  rising_apart (c ∷ cs) (suc j) zero r below lt = absurd (omega (arith, below))
  rising_apart (c ∷ cs) (suc j) (suc i) r below lt = rising_apart cs j i r.1 (omega (arith, below)) (omega (arith, lt))

  rising_weakly : (cs : List Child) → Rising cs → (i j : ℕ) → i ≤ j → j < length cs → (get_or cs i d).node ≤ (get_or cs j d).node
  rising_weakly cs r i j le lt =
      ⊎_elim
      (λ below. let less = rising_apart cs i j r below lt in omega (arith, less))
      (λ past. let same : i ≡ j = omega (arith, le, past) in let equal = ap (λ k. (get_or cs k d).node) same in omega (arith, equal))
      (cases_lt i j)

rising_push : (cs : List Child) (c : Child) → Rising cs → AllByRecursion (λ m. m.node < c.node) cs → Rising (cs ++ c ∷ [])
rising_push [] c r a = (tt, tt)
rising_push (m ∷ ms) c r a = (all_two (λ n. m.node < n.node) ms (c ∷ []) r.0 (a.0, tt), rising_push ms c r.1 a.1)

all_below : (cs : List Child) (k n : ℕ) → k ≤ n → AllByRecursion (λ c. c.node < k) cs → AllByRecursion (λ c. c.node < n) cs
all_below [] k n le a = tt
all_below (c ∷ cs) k n le a = (omega (arith, le, a.0), all_below cs k n le a.1)

-- ---- the occurrences of the child of a number

module _ (k : ℕ) where
  pub numbered_place : (cs : List Child) (i : ℕ) (c : Child) → Rising cs → i < length cs → c ≡ get_or cs i c → c.node ≡ k → Some c.occurrences ≡ numbered cs k
  numbered_place [] i c r lt is here = absurd (omega (arith, lt))
  numbered_place (m ∷ ms) zero c r lt is here =
      ap (λ (one : Child). Some one.occurrences) is
      ∙ sym (ap (λ b. if b then Some m.occurrences else numbered ms k) (same_number m.node k (ap (λ (one : Child). one.node) (sym is) ∙ here)))
  numbered_place (m ∷ ms) (suc i) c r lt is here =
      let above = all_at (λ n. m.node < n.node) ms i c r.0 (omega (arith, lt)) is in
      numbered_place ms i c r.1 (omega (arith, lt)) is here
      ∙ sym (ap (λ b. if b then Some m.occurrences else numbered ms k) (other_number m.node k (λ same. omega (arith, above, same, here))))

  numbered_none : (cs : List Child) → ((j : ℕ) (d : Child) → j < length cs → (get_or cs j d).node ≢ k) → numbered cs k ≡ None
  numbered_none [] none = refl
  numbered_none (m ∷ ms) none =
      ap (λ b. if b then Some m.occurrences else numbered ms k) (other_number m.node k (none 0 m (omega arith)))
      ∙ numbered_none ms (λ j d lt. none (suc j) d (omega (arith, lt)))

  -- what a search by number says
  pub searched_number : (cs : List Child) (i : ℕ) (c : Child) → IsBinarySearchResult (λ (one : Child). nat_cmp one.node k) cs (Ok i) → c ≡ get_or cs i c → c.node ≡ k
  searched_number cs i c equal is = ranked c.node k _ (sym (ap (λ (one : Child). nat_cmp one.node k) is ∙ equal c))

  pub numbered_missed : (cs : List Child) (i : ℕ) → Rising cs → IsBinarySearchResult (λ (one : Child). nat_cmp one.node k) cs (Err i) → numbered cs k ≡ None
  numbered_missed cs i r parted =
      let sides = parted (λ a b d le lt. higher (get_or cs a d).node (get_or cs b d).node (rising_weakly d cs r a b le lt)) in
      numbered_none cs (λ j d lt same.
      ⊎_elim
      (λ before. let less : (get_or cs j d).node < k = ranked _ k _ (sym (sides.0 j d (omega arith) before)) in omega (arith, less, same))
      (λ behind. let more : k < (get_or cs j d).node = ranked _ k _ (sym (sides.1 j d behind lt)) in omega (arith, more, same))
      (cases_lt j i))
    where
      higher : (a b : ℕ) → a ≤ b → ordering_index (nat_cmp a k) ≤ ordering_index (nat_cmp b k)
      higher a b le = grind (arith, nat_tests)

  numbered_above : (cs : List Child) → AllByRecursion (λ c. c.node < k) cs → numbered cs k ≡ None
  numbered_above [] a = refl
  numbered_above (m ∷ ms) a =
      ap (λ b. if b then Some m.occurrences else numbered ms k) (other_number m.node k (λ e. omega (arith, a.0, e))) ∙ numbered_above ms a.1

  module _ (o : Occurrences) where
    numbered_here : (cs : List Child) → AllByRecursion (λ c. c.node < k) cs → numbered (cs ++ record { node = k; occurrences = o } ∷ []) k ≡ Some o
    numbered_here [] a = ap (λ b. if b then Some o else None) (same_number k k refl)
    numbered_here (m ∷ ms) a =
        ap (λ b. if b then Some m.occurrences else numbered (ms ++ record { node = k; occurrences = o } ∷ []) k) (other_number m.node k (λ e. omega (arith, a.0, e)))
        ∙ numbered_here ms a.1

    numbered_before : (cs : List Child) (j : ℕ) → j < k → numbered (cs ++ record { node = k; occurrences = o } ∷ []) j ≡ numbered cs j
    numbered_before [] j lt = ap (λ b. if b then Some o else None) (other_number k j (λ e. omega (arith, lt, e)))
    numbered_before (m ∷ ms) j lt = ap (λ r. if m.node == j then Some m.occurrences else r) (numbered_before ms j lt)

-- ---- one more node that occurs

pub stays_up_to : (x : Found) (k : ℕ) → IsUpTo k x → IsUpTo (k + 1) x
stays_up_to x k up = record { rising = up.rising; below = all_below (children_of x) k (k + 1) (omega arith) up.below }

pub none_here : (x : Found) (k : ℕ) → IsUpTo k x → kept x k ≡ None
none_here x k up = numbered_above k (children_of x) up.below

module _ (x y : Found) (k : ℕ) (up : IsUpTo k x) (o : Occurrences) (put : children_of y ≡ children_of x ++ record { node = k; occurrences = o } ∷ []) where
  pub put_up_to : IsUpTo (k + 1) y
  put_up_to = record {
    rising = subst Rising (sym put) (rising_push (children_of x) (record { node = k; occurrences = o }) up.rising up.below);
    below = subst (AllByRecursion (λ (c : Child). c.node < k + 1)) (sym put)
        (all_two (λ c. c.node < k + 1) (children_of x) _ (all_below (children_of x) k (k + 1) (omega arith) up.below) (omega arith, tt));
  }

  pub put_here : kept y k ≡ Some o
  put_here = ap (λ l. numbered l k) put ∙ numbered_here k o (children_of x) up.below

  pub put_before : (j : ℕ) → j < k → kept y j ≡ kept x j
  put_before j lt = ap (λ l. numbered l j) put ∙ numbered_before k o (children_of x) j lt

-- ---- groups

pub found_groups : (v : Vec Found Global) → found_of (Some (Groups v)) ≡ v.items
found_groups v = items_hidden-the_row-Found-0 v

pub each_more : (F : Found → Tree) (xs : List Found) (x : Found) → each_tree F (xs ++ x ∷ []) ≡ append_trees (each_tree F xs) (trees (F x) no_trees)
each_more F [] x = refl
each_more F (y ∷ xs) x = ap (trees (F y)) (each_more F xs x)

-- ---- nodes

module _ (listed : List ℕ) where
  -- the tree of one node
  abbrev pub one_tree : (ℕ → Option Occurrences) → ℕ → Node → Tree
  one_tree at k n = tree_from listed at k (node_forest n nothing)

  pub one_same : (at at' : ℕ → Option Occurrences) (k k' : ℕ) (n : Node) → at k ≡ at' k' → one_tree at k n ≡ one_tree at' k' n
  one_same at at' k k' (Seg s) e = ap (λ o. segments (numbers_of listed o) leaf) e
  one_same at at' k k' (Group' lb u c shape row) e = ap (λ o. groups (each_tree (λ x. tree_from listed (kept x) 0 (row_forest row)) (found_of o)) leaf) e

  pub nodes_same : (at at' : ℕ → Option Occurrences) (k : ℕ) (ns : List Node) → ((j : ℕ) → k ≤ j → j < k + length ns → at j ≡ at' j) → tree_from listed at k (forest ns) ≡ tree_from listed at' k (forest ns)
  nodes_same at at' k [] same = refl
  nodes_same at at' k (Seg s ∷ ns) same =
      ap (λ o. segments (numbers_of listed o) (tree_from listed at (suc k) (forest ns))) (same k (omega arith) (omega arith))
      ∙ ap (segments (numbers_of listed (at' k))) (nodes_same at at' (suc k) ns (λ j le lt. same j (omega (arith, le)) (omega (arith, lt))))
  nodes_same at at' k (Group' lb u c shape row ∷ ns) same =
      ap (λ o. groups (each_tree (λ x. tree_from listed (kept x) 0 (row_forest row)) (found_of o)) (tree_from listed at (suc k) (forest ns))) (same k (omega arith) (omega arith))
      ∙ ap (groups (each_tree (λ x. tree_from listed (kept x) 0 (row_forest row)) (found_of (at' k)))) (nodes_same at at' (suc k) ns (λ j le lt. same j (omega (arith, le)) (omega (arith, lt))))

  pub nodes_push : (at : ℕ → Option Occurrences) (k j : ℕ) (ns : List Node) (n : Node) → j ≡ k + length ns → tree_from listed at k (forest (ns ++ n ∷ [])) ≡ append_tree (tree_from listed at k (forest ns)) (one_tree at j n)
  nodes_push at k j [] n e = let same : k ≡ j = omega (arith, e) in ap (λ i. one_tree at i n) same
  nodes_push at k j (Seg s ∷ ns) n e = ap (segments (numbers_of listed (at k))) (nodes_push at (suc k) j ns n (omega (arith, e)))
  nodes_push at k j (Group' lb u c shape row ∷ ns) n e =
      ap (groups (each_tree (λ x. tree_from listed (kept x) 0 (row_forest row)) (found_of (at k)))) (nodes_push at (suc k) j ns n (omega (arith, e)))

pub one_ordered : (at at' : ℕ → Option Occurrences) (k k' : ℕ) (n : Node) → at k ≡ at' k' → AreOrdered at k (node_forest n nothing) → AreOrdered at' k' (node_forest n nothing)
one_ordered at at' k k' (Seg s) e a = tt
one_ordered at at' k k' (Group' lb u c shape row) e a = (subst (λ o. AllByRecursion (IsOrdered (row_forest row)) (found_of o)) e a.0, tt)

pub same_ordered : (at at' : ℕ → Option Occurrences) (k : ℕ) (ns : List Node) → ((j : ℕ) → k ≤ j → j < k + length ns → at j ≡ at' j) → AreOrdered at k (forest ns) → AreOrdered at' k (forest ns)
same_ordered at at' k [] same a = tt
same_ordered at at' k (Seg s ∷ ns) same a = same_ordered at at' (suc k) ns (λ j le lt. same j (omega (arith, le)) (omega (arith, lt))) a
same_ordered at at' k (Group' lb u c shape row ∷ ns) same a = (
  subst (λ o. AllByRecursion (IsOrdered (row_forest row)) (found_of o)) (same k (omega arith) (omega arith)) a.0,
  same_ordered at at' (suc k) ns (λ j le lt. same j (omega (arith, le)) (omega (arith, lt))) a.1,
)

pub push_ordered : (at : ℕ → Option Occurrences) (k j : ℕ) (ns : List Node) (n : Node) → j ≡ k + length ns → AreOrdered at k (forest ns) → AreOrdered at j (node_forest n nothing) → AreOrdered at k (forest (ns ++ n ∷ []))
push_ordered at k j [] n e a b = let same : j ≡ k = omega (arith, e) in subst (λ i. AreOrdered at i (node_forest n nothing)) same b
push_ordered at k j (Seg s ∷ ns) n e a b = push_ordered at (suc k) j ns n (omega (arith, e)) a b
push_ordered at k j (Group' lb u c shape row ∷ ns) n e a b = (a.0, push_ordered at (suc k) j ns n (omega (arith, e)) a.1 b)

-- ---- the numbers of a tree are of those that are listed

module _ (P : ℕ → Type 0) (listed : List ℕ) (within : AllByRecursion P listed) where
  pub numbers_within : (o : Option Occurrences) → AllByRecursion P (numbers_of listed o)
  numbers_within None = tt
  numbers_within (Some (Segments from count)) = all_first P count (drop from listed) (all_behind P from listed within)
  numbers_within (Some (OneGroup x)) = tt
  numbers_within (Some (Groups' shape row)) = tt

  each_within : (F : Found → Tree) → ((x : Found) → AllByRecursion P (flatten (F x))) → (xs : List Found) → AllByRecursion P (flatten_all (each_tree F xs))
  each_within F a [] = tt
  each_within F a (x ∷ xs) = all_two P (flatten (F x)) (flatten_all (each_tree F xs)) (a x) (each_within F a xs)

  pub tree_within : (at : ℕ → Option Occurrences) (k : ℕ) (f : Forest) → AllByRecursion P (flatten (tree_from listed at k f))
  tree_within at k nothing = tt
  tree_within at k (segment s rest) = all_two P (numbers_of listed (at k)) (flatten (tree_from listed at (suc k) rest)) (numbers_within (at k)) (tree_within at (suc k) rest)
  tree_within at k (group g nodes rest) =
      all_two P (flatten_all (each_tree (λ x. tree_from listed (kept x) 0 nodes) (found_of (at k)))) (flatten (tree_from listed at (suc k) rest))
      (each_within (λ x. tree_from listed (kept x) 0 nodes) (λ x. tree_within (kept x) 0 nodes) (found_of (at k)))
      (tree_within at (suc k) rest)
