-- What is counted up to a cap: sums, products, the texts that have to come, and nodes one by one.
use Rattle.std.proofs.Common.{◌≡◌, ℕ, zero, suc, ◌+◌, ◌*◌, ◌<◌, ◌≤◌, inl, inr, List, [], ◌∷◌, ◌++◌, length, map, take, drop, get_or, sym, ap, ◌∙◌, arith, refl}
use Rattle.std.specs.Prelude.{min}
use Rattle.std.specs.List.{sum_by}
use Rattle.std.proofs.lemmas.Nat.{mul-le}
use Rattle.std.proofs.lemmas.Bool.{cases_lt}
use Rattle.std.proofs.lemmas.List.{map_push, take_more}
use Rattle.std.proofs.lemmas.List.Sums.{sum_by-append, sum_by-cons}
use Rattle.gw_profile.specs.declared.node.Node.{Node, Seg, Group, Group'}
use Rattle.gw_profile.specs.declared.node.SegNode.{SegNode}
use Rattle.gw_profile.specs.declared.node.GroupNode.{GroupNode}
use Rattle.gw_profile.specs.Seen.{segment_value, forest, node_forest}
use Rattle.gw_profile.specs.Shapes.{Forest, nothing}
use Rattle.gw_profile.proofs.Rows.{group_forest}
use Rattle.gw_sample.specs.FewestTexts.{of_segment, fewest_texts}
use Rattle.gw_sample.proofs.Added.{rest_is, past}

-- ---- sums and products, up to a cap

pub sum_more : {X A : Type 0} (F : A → ℕ) (seen : X → A) (xs : List X) (i : ℕ) (x d : X) (cap count one after : ℕ) → i < length xs → x ≡ get_or xs i d
    → count ≡ min (sum_by F (map seen (take i xs))) cap → one ≡ min (F (seen x)) cap → after ≡ min (count + one) cap → after ≡ min (sum_by F (map seen (take (i + 1) xs))) cap
sum_more {X = X} {A = A} F seen xs i x d cap count one after lt is e f g =
    let more : take (i + 1) xs ≡ take i xs ++ x ∷ [] = take_more xs i d lt ∙ ap (λ (y : X). take i xs ++ y ∷ []) (sym is) in
    let seen_more : map seen (take (i + 1) xs) ≡ map seen (take i xs) ++ seen x ∷ [] = ap (map seen) more ∙ map_push seen (take i xs) x in
    let s : sum_by F (map seen (take (i + 1) xs)) ≡ sum_by F (map seen (take i xs)) + sum_by F (seen x ∷ []) = ap (sum_by F) seen_more ∙ sum_by-append F (map seen (take i xs)) (seen x ∷ []) in
    let t : sum_by F (seen x ∷ []) ≡ F (seen x) + sum_by F [] = sum_by-cons F (seen x) [] in
    let u : sum_by F [] ≡ 0 = refl in
    omega (arith, e, f, g, s, t, u)

pub product_capped : (cap k n each : ℕ) → 0 < cap → each ≡ min n cap → min (k * each) cap ≡ min (k * n) cap
product_capped cap zero n each some e = omega arith
product_capped cap (suc k) n each some e = elim (cases_lt n cap) [
  | inl lt ↦ (let same : each ≡ n = omega (arith, lt, e) in ap (λ (m : ℕ). min (suc k * m) cap) same)
  | inr ge ↦ (let capped : cap ≤ each = omega (arith, ge, e) in
      let a = mul-le 1 cap (suc k) each (omega arith) capped in
      let b = mul-le 1 cap (suc k) n (omega arith) ge in
      omega (arith, a, b))
]

-- ---- of the texts

pub texts_before : (n : Node) (rest : Forest) → fewest_texts (node_forest n rest) ≡ fewest_texts (node_forest n nothing) + fewest_texts rest
texts_before (Seg s) rest = omega arith
texts_before (Group' label usage card shape row) rest = omega arith

pub segment_texts : (node : Node) (s : SegNode) (cap result : ℕ) → node ≡ Seg s → result ≡ min (of_segment (segment_value s)) cap → result ≡ min (fewest_texts (node_forest node nothing)) cap
segment_texts node s cap result is e =
    let n : fewest_texts (node_forest node nothing) ≡ of_segment (segment_value s) + 0 = ap (λ (m : Node). fewest_texts (node_forest m nothing)) is in
    omega (arith, n, e)

pub group_texts : (node : Node) (g : GroupNode) (nodes : List Node) (cap each result : ℕ) → 0 < cap → node ≡ Group g → nodes ≡ g.nodes.items → each ≡ min (fewest_texts (forest nodes)) cap
    → result ≡ min (g.card.min * each) cap → result ≡ min (fewest_texts (node_forest node nothing)) cap
group_texts node g nodes cap each result some is items e r =
    let n : fewest_texts (node_forest node nothing) ≡ g.card.min * fewest_texts (forest g.nodes.items) + 0 = ap fewest_texts (ap (λ (m : Node). node_forest m nothing) is ∙ group_forest g nothing) in
    let o : g.card.min * fewest_texts (forest nodes) ≡ g.card.min * fewest_texts (forest g.nodes.items) = ap (λ (l : List Node). g.card.min * fewest_texts (forest l)) items in
    let p = product_capped cap g.card.min (fewest_texts (forest nodes)) each some e in
    omega (arith, n, o, p, r)

-- ---- nodes one by one

-- of a size, that of the nodes from number i on is still to be counted
pub record Counts (size : Forest → ℕ) (cap : ℕ) (nodes : List Node) (i count : ℕ) : Type 0 where
  pub sum : min (count + size (forest (drop i nodes))) cap ≡ min (size (forest nodes)) cap
  pub bound : count ≤ cap

pub all_to_count : (size : Forest → ℕ) (cap : ℕ) (nodes : List Node) → Counts size cap nodes 0 0
all_to_count size cap nodes = record { sum = omega arith; bound = omega arith }

module _ (size : Forest → ℕ) (before : (n : Node) (rest : Forest) → size (node_forest n rest) ≡ size (node_forest n nothing) + size rest) where
  pub one_counted : (cap : ℕ) (nodes : List Node) (i : ℕ) (node : Node) (count one after : ℕ) → i < length nodes → node ≡ get_or nodes i node → Counts size cap nodes i count
      → one ≡ min (size (node_forest node nothing)) cap → after ≡ min (count + one) cap → Counts size cap nodes (i + 1) after
  one_counted cap nodes i node count one after lt at h e f =
      let rest = forest (drop (i + 1) nodes) in
      let n : size (forest (drop i nodes)) ≡ size (node_forest node nothing) + size rest = ap (λ (l : List Node). size (forest l)) (rest_is nodes i node lt at) ∙ before node rest in
      let sum = h.sum in
      record { sum = omega (arith, n, sum, e, f); bound = omega (arith, f) }

pub all_counted : (size : Forest → ℕ) → size nothing ≡ 0 → (cap : ℕ) (nodes : List Node) (i count : ℕ) → length nodes ≤ i → Counts size cap nodes i count → count ≡ min (size (forest nodes)) cap
all_counted size none cap nodes i count le h =
    let n : size (forest (drop i nodes)) ≡ 0 = ap (λ (l : List Node). size (forest l)) (past nodes i le) ∙ none in
    let sum = h.sum in
    let bound = h.bound in
    omega (arith, n, sum, bound)
