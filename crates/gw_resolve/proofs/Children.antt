-- The nodes of a profile by their numbers, and the nodes within them.
use Rattle.std.proofs.Common.{◌≡◌, ℕ, zero, suc, true, false, List, [], ◌∷◌, None, refl, sym, ap, ◌∙◌, arith, length, true≢false, nat_lt, get_or, ◌<◌}
use Rattle.std.proofs.lemmas.Bool.Decides.{nat_tests}
use Rattle.gw_profile.specs.declared.node.Node.{Node, Seg, Group'}
use Rattle.gw_profile.specs.Shapes.{nothing, Forest}
use Rattle.gw_profile.specs.Seen.{forest, node_forest}
use Rattle.gw_profile.specs.Labels.{within, inner}
use Rattle.gw_resolve.specs.Places.{child}

same_child : (n : Node) (rest other : _) → child (node_forest n rest) 0 ≡ child (node_forest n other) 0
same_child (Seg s) rest other = refl
same_child (Group' label usage card shape inner) rest other = refl

later_child : (n : Node) (rest : _) (i : ℕ) → child (node_forest n rest) (suc i) ≡ child rest i
later_child (Seg s) rest i = refl
later_child (Group' label usage card shape inner) rest i = refl

pub child_past : (nodes : List Node) (i : ℕ) → nat_lt i (length nodes) ≡ false → child (forest nodes) i ≡ None
child_past [] i e = refl
child_past (m ∷ nodes) zero e = absurd (let some : nat_lt 0 (length (m ∷ nodes)) ≡ true = grind (arith, nat_tests) in true≢false (sym some ∙ e))
child_past (m ∷ nodes) (suc i) e = later_child m (forest nodes) i ∙ child_past nodes i (grind (arith, nat_tests))

pub child_at : (nodes : List Node) (i : ℕ) (n : Node) → i < length nodes → ((d : Node) → n ≡ get_or nodes i d) → child (forest nodes) i ≡ child (node_forest n nothing) 0
child_at [] i n h e = absurd (omega (arith, h))
child_at (m ∷ nodes) zero n h e = same_child m (forest nodes) nothing ∙ ap (λ k. child (node_forest k nothing) 0) (sym (e n))
child_at (m ∷ nodes) (suc i) n h e = later_child m (forest nodes) i ∙ child_at nodes i n (omega (arith, h)) e

-- ---- the nodes within a node

at_first : (m : Node) (rest : Forest) → within (node_forest m rest) 0 ≡ inner m
at_first (Seg s) rest = refl
at_first (Group' label usage card shape row) rest = refl

later : (m : Node) (rest : Forest) (i : ℕ) → within (node_forest m rest) (suc i) ≡ within rest i
later (Seg s) rest i = refl
later (Group' label usage card shape row) rest i = refl

pub within_at : (nodes : List Node) (i : ℕ) (n : Node) → i < length nodes → ((d : Node) → n ≡ get_or nodes i d) → within (forest nodes) i ≡ inner n
within_at [] i n h e = absurd (omega (arith, h))
within_at (m ∷ nodes) zero n h e = at_first m (forest nodes) ∙ ap inner (sym (e n))
within_at (m ∷ nodes) (suc i) n h e = later m (forest nodes) i ∙ within_at nodes i n (omega (arith, h)) e
