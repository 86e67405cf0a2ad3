-- What the views of a tree show.
use Rattle.std.proofs.Common.{◌≡◌, ℕ, zero, suc, ◌+◌, ◌<◌, List, [], ◌∷◌, Option, Some, option_map, refl, sym, ap, ◌∙◌, subst, arith, length, get_or, slice_get}
use Rattle.std.specs.List.{AllByRecursion}
use Rattle.gw_er7.specs.Message.{SegmentValue}
use Rattle.gw_profile.specs.declared.node.Node.{Node, Seg, Group, Group'}
use Rattle.gw_profile.specs.declared.node.SegNode as declared_segment
use Rattle.gw_profile.specs.declared.node.GroupNode as declared_group
use Rattle.gw_profile.specs.Shapes.{nothing, group}
use Rattle.gw_profile.specs.Seen.{forest, node_forest}
use Rattle.gw_validate.specs.declared.occ.Shown.{Shown}
use Rattle.gw_validate.specs.declared.occ.Shown.TheVariants as shown
use Rattle.gw_validate.specs.declared.occurrences.Occurrences.{Occurrences}
use Rattle.gw_validate.specs.declared.occurrences.Found.{Found}
use Rattle.gw_validate.specs.Trees.{Tree, count_of}
use Rattle.gw_validate.specs.Fitting.{IsLent}
use Rattle.gw_validate.specs.Viewing.{number, row, tree_at, width, count_at, occurrence_at}
use Rattle.gw_validate.specs.own.Lending.{shown_number, shown_tree, IsOf}
use Rattle.gw_validate.specs.own.Occurring.{kept, numbers_of, found_of, each_tree, tree_from, tree_of, AreOrdered, IsOrdered}
use Rattle.gw_validate.proofs.Rows.{one_tree, tree_within}
use Rattle.gw_validate.proofs.Walking.{forest_group, value_of}

module _ (listed : List ℕ) (at : ℕ → Option Occurrences) where
  pub width_nodes : (k : ℕ) (ns : List Node) → width (tree_from listed at k (forest ns)) ≡ length ns
  width_nodes k [] = refl
  width_nodes k (Seg s ∷ ns) = ap suc (width_nodes (suc k) ns)
  width_nodes k (Group' lb u c shape ch ∷ ns) = ap suc (width_nodes (suc k) ns)

  -- what a tree shows of a node is what the node's tree shows
  pub count_node : (k j : ℕ) (ns : List Node) (i : ℕ) (n : Node) → i < length ns → n ≡ get_or ns i n → j ≡ k + i → count_at (tree_from listed at k (forest ns)) i ≡ count_at (one_tree listed at j n) 0
  count_node k j [] i n lt is e = absurd (omega (arith, lt))
  count_node k j (Seg s ∷ ns) zero n lt is e =
      let same : k ≡ j = omega (arith, e) in
      ap (λ i. count_at (one_tree listed at i (Seg s)) 0) same ∙ ap (λ m. count_at (one_tree listed at j m) 0) (sym is)
  count_node k j (Group' lb u c shape ch ∷ ns) zero n lt is e =
      let same : k ≡ j = omega (arith, e) in
      ap (λ i. count_at (one_tree listed at i (Group' lb u c shape ch)) 0) same ∙ ap (λ m. count_at (one_tree listed at j m) 0) (sym is)
  count_node k j (Seg s ∷ ns) (suc i) n lt is e = count_node (suc k) j ns i n (omega (arith, lt)) is (omega (arith, e))
  count_node k j (Group' lb u c shape ch ∷ ns) (suc i) n lt is e = count_node (suc k) j ns i n (omega (arith, lt)) is (omega (arith, e))

  pub at_node : (k j : ℕ) (ns : List Node) (i : ℕ) (n : Node) (q : ℕ) → i < length ns → n ≡ get_or ns i n → j ≡ k + i → occurrence_at (tree_from listed at k (forest ns)) i q ≡ occurrence_at (one_tree listed at j n) 0 q
  at_node k j [] i n q lt is e = absurd (omega (arith, lt))
  at_node k j (Seg s ∷ ns) zero n q lt is e =
      let same : k ≡ j = omega (arith, e) in
      ap (λ i. occurrence_at (one_tree listed at i (Seg s)) 0 q) same ∙ ap (λ m. occurrence_at (one_tree listed at j m) 0 q) (sym is)
  at_node k j (Group' lb u c shape ch ∷ ns) zero n q lt is e =
      let same : k ≡ j = omega (arith, e) in
      ap (λ i. occurrence_at (one_tree listed at i (Group' lb u c shape ch)) 0 q) same ∙ ap (λ m. occurrence_at (one_tree listed at j m) 0 q) (sym is)
  at_node k j (Seg s ∷ ns) (suc i) n q lt is e = at_node (suc k) j ns i n q (omega (arith, lt)) is (omega (arith, e))
  at_node k j (Group' lb u c shape ch ∷ ns) (suc i) n q lt is e = at_node (suc k) j ns i n q (omega (arith, lt)) is (omega (arith, e))

  -- a segment's node
  pub count_segments : (j : ℕ) (n : Node) (s : declared_segment.SegNode) → n ≡ Seg s → count_at (one_tree listed at j n) 0 ≡ length (numbers_of listed (at j))
  count_segments j n s e = ap (λ m. count_at (one_tree listed at j m) 0) e

  pub at_segment : (j : ℕ) (n : Node) (s : declared_segment.SegNode) (q d : ℕ) → n ≡ Seg s → q < length (numbers_of listed (at j)) → occurrence_at (one_tree listed at j n) 0 q ≡ Some (number (get_or (numbers_of listed (at j)) q d))
  at_segment j n s q d e lt = ap (λ m. occurrence_at (one_tree listed at j m) 0 q) e ∙ ap (option_map number) (get_number (numbers_of listed (at j)) q lt)
    where
      get_number : (xs : List ℕ) (q : ℕ) → q < length xs → slice_get xs q ≡ Some (get_or xs q d)
      get_number [] q lt = absurd (omega (arith, lt))
      get_number (x ∷ xs) zero lt = refl
      get_number (x ∷ xs) (suc q) lt = get_number xs q (omega (arith, lt))

  -- a group's node
  group_tree : (j : ℕ) (n : Node) (g : declared_group.GroupNode) → n ≡ Group g → one_tree listed at j n ≡ tree_from listed at j (group (value_of g) (forest g.nodes.items) nothing)
  group_tree j n g e = ap (one_tree listed at j) e ∙ ap (tree_from listed at j) (forest_group g nothing)

  pub count_groups : (j : ℕ) (n : Node) (g : declared_group.GroupNode) → n ≡ Group g → count_at (one_tree listed at j n) 0 ≡ length (found_of (at j))
  count_groups j n g e = ap (λ t. count_at t 0) (group_tree j n g e) ∙ count_each (tree_of listed (forest g.nodes.items)) (found_of (at j))
    where
      count_each : (F : Found → Tree) (xs : List Found) → count_of (each_tree F xs) ≡ length xs
      count_each F [] = refl
      count_each F (x ∷ xs) = ap suc (count_each F xs)

  pub at_group : (j : ℕ) (n : Node) (g : declared_group.GroupNode) (q : ℕ) (x : Found) → n ≡ Group g → q < length (found_of (at j)) → x ≡ get_or (found_of (at j)) q x → occurrence_at (one_tree listed at j n) 0 q ≡ Some (row (tree_of listed (forest g.nodes.items) x))
  at_group j n g q x e lt is = ap (λ t. occurrence_at t 0 q) (group_tree j n g e) ∙ ap (option_map row) (tree_each (tree_of listed (forest g.nodes.items)) (found_of (at j)) q x lt is)
    where
      tree_each : (F : Found → Tree) (xs : List Found) (q : ℕ) (x : Found) → q < length xs → x ≡ get_or xs q x → tree_at (each_tree F xs) q ≡ Some (F x)
      tree_each F [] q x lt is = absurd (omega (arith, lt))
      tree_each F (y ∷ xs) zero x lt is = ap (λ (z : Found). Some (F z)) (sym is)
      tree_each F (y ∷ xs) (suc q) x lt is = tree_each F xs q x (omega (arith, lt)) is

-- what is kept of a group's occurrences is in order
module _ (at : ℕ → Option Occurrences) where
  pub node_ordered : (k j : ℕ) (ns : List Node) (i : ℕ) (n : Node) → i < length ns → n ≡ get_or ns i n → j ≡ k + i → AreOrdered at k (forest ns) → AreOrdered at j (node_forest n nothing)
  node_ordered k j [] i n lt is e a = absurd (omega (arith, lt))
  node_ordered k j (Seg s ∷ ns) zero n lt is e a = subst (λ m. AreOrdered at j (node_forest m nothing)) (sym is) tt
  node_ordered k j (Group' lb u c shape ch ∷ ns) zero n lt is e a =
      let same : k ≡ j = omega (arith, e) in
      subst (λ m. AreOrdered at j (node_forest m nothing)) (sym is) (subst (λ i. AreOrdered at i (node_forest (Group' lb u c shape ch) nothing)) same (a.0, tt))
  node_ordered k j (Seg s ∷ ns) (suc i) n lt is e a = node_ordered (suc k) j ns i n (omega (arith, lt)) is (omega (arith, e)) a
  node_ordered k j (Group' lb u c shape ch ∷ ns) (suc i) n lt is e a = node_ordered (suc k) j ns i n (omega (arith, lt)) is (omega (arith, e)) a.1

  pub group_ordered : (j : ℕ) (n : Node) (g : declared_group.GroupNode) → n ≡ Group g → AreOrdered at j (node_forest n nothing) → AllByRecursion (IsOrdered (forest g.nodes.items)) (found_of (at j))
  group_ordered j n g e a = (subst (AreOrdered at j) (ap (λ m. node_forest m nothing) e ∙ forest_group g nothing) a).0

-- what is shown is lent
pub lent : (m : List SegmentValue) (s : Shown) → IsOf m s → IsLent (record { message = m; number = shown_number s; tree = shown_tree s })
lent m (shown.Segment i) is = record { number = is; alone = refl; each = tt }
lent m (shown.Group r) is = record { number = tt; alone = tt; each = tree_within (λ i. i < length m) r.listed.now is.within (kept r.found.now) 0 (forest r.nodes.now) }
