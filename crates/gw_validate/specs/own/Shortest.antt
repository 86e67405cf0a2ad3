-- The shortest list that fits.
use Rattle.std.specs.Prelude.{ℕ, zero, suc, List, [], ◌∷◌, ◌++◌, Option, Some, None}
use Rattle.gw_profile.specs.declared.node.Node.{Node, Seg, Group'}
use Rattle.gw_profile.specs.Shapes.{Forest, nothing, segment, group}
use Rattle.gw_profile.specs.Seen.{row_forest}
use Rattle.gw_profile.specs.Deterministic.{Name}

abbrev pub several : ℕ → List Name → List Name
several zero l = []
several (suc k) l = l ++ several k l

abbrev pub shortest : Forest → List Name
shortest nothing = []
shortest (segment s rest) = several s.card.min (s.name ∷ []) ++ shortest rest
shortest (group g nodes rest) = several g.card.min (shortest nodes) ++ shortest rest

abbrev pub shortest_node : Node → List Name
shortest_node (Seg s) = s.name ∷ []
shortest_node (Group' label usage card shape nodes) = shortest (row_forest nodes)

abbrev pub head : List Name → Option Name
head [] = None
head (x ∷ xs) = Some x
