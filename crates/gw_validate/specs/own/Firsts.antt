-- The names that can begin what is left of a node.
use Rattle.std.specs.Prelude.{ℕ, List, [], ◌∷◌, Option, if◌then◌else◌}
use Rattle.gw_profile.specs.declared.node.Node.{Node, Seg, Group'}
use Rattle.gw_profile.specs.Seen.{row_forest}
use Rattle.gw_profile.specs.Deterministic.{Name}
use Rattle.gw_profile.specs.LookAhead.{first_names}
use Rattle.gw_validate.specs.own.Residual.{has_room}

-- an occurrence of the node, where so many more are allowed
abbrev pub first_of : Node → Option ℕ → List Name
first_of (Seg s) most = if has_room most then s.name ∷ [] else []
first_of (Group' label usage card shape nodes) most = if has_room most then first_names (row_forest nodes) else []
