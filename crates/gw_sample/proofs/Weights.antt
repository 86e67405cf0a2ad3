-- How many segments and groups nodes have, by which the walk over them ends.
use Rattle.std.proofs.Common.{◌≡◌, ℕ, zero, suc, ◌+◌, ◌<◌, ◌≤◌, List, [], ◌∷◌, length, get_or, ap, ◌∙◌, arith}
use Rattle.gw_profile.specs.declared.node.Node.{Node, Seg, Group, Group'}
use Rattle.gw_profile.specs.declared.node.GroupNode.{GroupNode}
use Rattle.gw_profile.specs.Seen.{forest, node_forest}
use Rattle.gw_profile.specs.Shapes.{Forest, nothing, segment, group}
use Rattle.gw_profile.proofs.Rows.{group_forest}

abbrev pub weight : Forest → ℕ
weight nothing = 0
weight (segment s rest) = 1 + weight rest
weight (group g nodes rest) = (1 + weight nodes) + weight rest

abbrev pub weight_one : Node → ℕ
weight_one n = weight (node_forest n nothing)

abbrev pub weight_all : List Node → ℕ
weight_all nodes = weight (forest nodes)

weight_before : (n : Node) (rest : Forest) → weight (node_forest n rest) ≡ weight_one n + weight rest
weight_before (Seg s) rest = omega arith
weight_before (Group' label usage card shape row) rest = omega arith

pub not_heavier : (nodes : List Node) (i : ℕ) (n : Node) → i < length nodes → n ≡ get_or nodes i n → weight_one n ≤ weight_all nodes
not_heavier [] i n lt at = absurd (omega (arith, lt))
not_heavier (x ∷ nodes) zero n lt at = let e = weight_before x (forest nodes) in let f : weight_one n ≡ weight_one x = ap weight_one at in omega (arith, e, f)
not_heavier (x ∷ nodes) (suc i) n lt at = let e = weight_before x (forest nodes) in let f = not_heavier nodes i n (omega (arith, lt)) at in omega (arith, e, f)

pub lighter : (n : Node) (g : GroupNode) (nodes : List Node) → n ≡ Group g → nodes ≡ g.nodes.items → weight_all nodes < weight_one n
lighter n g nodes is items =
    let e : weight_one n ≡ (1 + weight_all g.nodes.items) + 0 = ap weight (ap (λ (m : Node). node_forest m nothing) is ∙ group_forest g nothing) in
    let f : weight_all nodes ≡ weight_all g.nodes.items = ap weight_all items in
    omega (arith, e, f)
