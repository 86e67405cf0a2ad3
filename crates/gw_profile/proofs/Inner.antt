-- The nodes within a node.
use Rattle.std.proofs.Common.{◌≡◌, ℕ, zero, suc, List, [], ◌∷◌, Result, Ok, Err, IfOk, refl, sym, ap, ◌∙◌, map, length, get_or, ◌<◌, ◌≤◌, arith}
use Rattle.gw_profile.specs.declared.node.GroupNode.{GroupNode}
use Rattle.gw_profile.specs.declared.node.Node.{Node, Seg, Group, Group'}
use Rattle.gw_profile.specs.Shapes.{nothing}
use Rattle.gw_profile.specs.Seen.{forest}
use Rattle.gw_profile.proofs.Rows.{group_forest}
use Rattle.gw_profile.specs.Labels.{within, inner}

pub inner_group : (n : Node) (g : GroupNode) → n ≡ Group g → forest g.nodes.items ≡ inner n
inner_group n g is = sym (ap inner is ∙ ap (λ f. within f 0) (group_forest g nothing))

-- those of a group are its own
pub group_indexed : {E : Type 0} (r : Result (List Node) E) (n : Node) (g : GroupNode) (nodes : List Node) → n ≡ Group g → nodes ≡ g.nodes.items → IfOk r (λ made. made ≡ nodes) → IfOk r (λ made. forest made ≡ inner n)
group_indexed (Ok made) n g nodes is same e = ap forest (e ∙ same) ∙ inner_group n g is
group_indexed (Err e) n g nodes is same h = tt

at_first : (m : Node) (nodes : List Node) → inner m ≡ within (forest (m ∷ nodes)) 0
at_first (Seg s) nodes = refl
at_first (Group' label usage card shape row) nodes = refl

later : (m : Node) (nodes : List Node) (i : ℕ) → within (forest (m ∷ nodes)) (suc i) ≡ within (forest nodes) i
later (Seg s) nodes i = refl
later (Group' label usage card shape row) nodes i = refl

-- those of each node
pub within_at : (nodes : List Node) (below : List (List Node)) (i : ℕ) (b : List Node) → map forest below ≡ map inner nodes → i < length below → b ≡ get_or below i b → forest b ≡ within (forest nodes) i
within_at nodes [] i b e h is = absurd (omega (arith, h))
within_at [] (k ∷ below) i b e h is = absurd (cc)
within_at (m ∷ nodes) (k ∷ below) zero b e h is = let here : forest k ≡ inner m = cc in ap forest is ∙ here ∙ at_first m nodes
within_at (m ∷ nodes) (k ∷ below) (suc i) b e h is =
    let others : map forest below ≡ map inner nodes = cc in
    within_at nodes below i b others (omega (arith, h)) is ∙ sym (later m nodes i)

pub within_past : (nodes : List Node) (below : List (List Node)) (i : ℕ) → map forest below ≡ map inner nodes → length below ≤ i → nothing ≡ within (forest nodes) i
within_past [] below i e h = refl
within_past (m ∷ nodes) [] i e h = absurd (cc)
within_past (m ∷ nodes) (k ∷ below) zero e h = absurd (omega (arith, h))
within_past (m ∷ nodes) (k ∷ below) (suc i) e h = let others : map forest below ≡ map inner nodes = cc in within_past nodes below i others (omega (arith, h)) ∙ sym (later m nodes i)
