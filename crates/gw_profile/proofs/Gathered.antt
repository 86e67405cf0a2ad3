-- The names that were gathered.
use Rattle.std.proofs.Common.{◌≡◌, ℕ, suc, arith, ◌+◌, ◌<◌, Bool, true, false, List, ◌∷◌, refl, sym, ap, ◌∙◌, length, drop, drop-cons, get_or}
use Rattle.std.specs.Prelude.{◌||◌, bytes_eq}
use Rattle.std.specs.HashSet.{HashSet, contains}
use Rattle.gw_profile.specs.declared.node.Node.{Node, Seg, Group, Group'}
use Rattle.gw_profile.specs.declared.node.GroupNode.{GroupNode}
use Rattle.gw_profile.specs.Shapes.{Forest, nothing}
use Rattle.gw_profile.specs.Seen.{forest, node_forest, row_forest}
use Rattle.gw_profile.specs.Deterministic.{Name}
use Rattle.gw_profile.specs.Names.{stands, Adds}
use Rattle.gw_profile.proofs.Rows.{group_forest}

or_false : (a : Bool) → (a || false) ≡ a
or_false true = refl
or_false false = refl

or_turned : (n r o : Bool) → (r || (n || o)) ≡ ((n || r) || o)
or_turned true true o = refl
or_turned true false o = refl
or_turned false true o = refl
or_turned false false o = refl

next : (i : ℕ) → suc i ≡ i + 1
next i = omega arith

-- a node before others
stands_before : (n : Node) (rest : Forest) (x : Name) → stands (node_forest n rest) x ≡ (stands (node_forest n nothing) x || stands rest x)
stands_before (Seg s) rest x = ap (λ b. b || stands rest x) (sym (or_false (bytes_eq s.name x)))
stands_before (Group' label usage card shape row) rest x = ap (λ b. b || stands rest x) (sym (or_false (stands (row_forest row) x)))

module _ {S : Type 0} where
  -- the names of the nodes from number i on are still to be added
  abbrev pub Left : HashSet Name S → HashSet Name S → List Node → ℕ → Type 0
  Left old now nodes i = (x : Name) → (stands (forest nodes) x || contains bytes_eq old x) ≡ (stands (forest (drop i nodes)) x || contains bytes_eq now x)

  pub one_less : (old now new : HashSet Name S) (nodes : List Node) (i : ℕ) (node : Node) → i < length nodes → node ≡ get_or nodes i node → Left old now nodes i → Adds now new (node_forest node nothing) → Left old new nodes (i + 1)
  one_less old now new nodes i node lt at left adds = λ x.
      left x
      ∙ ap (λ l. stands (forest l) x || contains bytes_eq now x) (drop-cons nodes i node lt ∙ ap (λ k. get_or nodes i node ∷ drop k nodes) (next i) ∙ ap (λ n. n ∷ drop (i + 1) nodes) (sym at))
      ∙ ap (λ b. b || contains bytes_eq now x) (stands_before node (forest (drop (i + 1) nodes)) x)
      ∙ sym (or_turned (stands (node_forest node nothing) x) (stands (forest (drop (i + 1) nodes)) x) (contains bytes_eq now x))
      ∙ ap (λ b. stands (forest (drop (i + 1) nodes)) x || b) (sym (adds x))

  pub adds_group : (old new : HashSet Name S) (node : Node) (g : GroupNode) (nodes : List Node) → node ≡ Group g → nodes ≡ g.nodes.items → Adds old new (forest nodes) → Adds old new (node_forest node nothing)
  adds_group old new node g nodes is items a = λ x.
      a x
      ∙ ap (λ l. stands (forest l) x || contains bytes_eq old x) items
      ∙ ap (λ k. k || contains bytes_eq old x) (sym (or_false (stands (forest g.nodes.items) x)))
      ∙ ap (λ f. stands f x || contains bytes_eq old x) (sym (ap (λ n. node_forest n nothing) is ∙ group_forest g nothing))
