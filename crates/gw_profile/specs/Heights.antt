-- How many levels of nodes there are.
use Rattle.std.specs.Prelude.{◌≡◌, ℕ, ◌+◌, ◌≤◌, max, List, [], ◌∷◌, map}
use Rattle.std.proofs.Common.{ap, arith}
use denote.Param.Weighed.{most}
use Rattle.gw_profile.specs.declared.node.Node.{Node, Seg, Group'}
use Rattle.gw_profile.specs.Shapes.{Forest, nothing, segment, group}
use Rattle.gw_profile.specs.Seen.{forest, node_forest}
use Rattle.gw_profile.specs.Labels.{inner}

abbrev pub height : Forest → ℕ
height nothing = 0
height (segment s rest) = max 1 (height rest)
height (group g nodes rest) = max (height nodes + 1) (height rest)

-- fewer within each node
pub below_height : (nodes : List Node) (below : List (List Node)) → map forest below ≡ map inner nodes → most (λ k. height (forest k) + 1) below ≤ height (forest nodes)
below_height [] [] e = omega arith
below_height [] (k ∷ below) e = absurd (cc)
below_height (n ∷ nodes) [] e = absurd (cc)
below_height (n ∷ nodes) (k ∷ below) e =
    let here : forest k ≡ inner n = cc in
    let others : map forest below ≡ map inner nodes = cc in
    let more = below_height nodes below others in
    with n here more
  where
    with : (m : Node) → forest k ≡ inner m → most (λ l. height (forest l) + 1) below ≤ height (forest nodes) → max (height (forest k) + 1) (most (λ l. height (forest l) + 1) below) ≤ height (node_forest m (forest nodes))
    with (Seg s) here more = let low : height (forest k) ≡ 0 = ap height here in omega (arith, low, more)
    with (Group' label usage card shape row) here more = let low = ap height here in omega (arith, low, more)
