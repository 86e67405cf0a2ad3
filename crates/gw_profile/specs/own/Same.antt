-- Nodes that are the same.
use Rattle.std.specs.Prelude.{◌≡◌, ℕ, List, map}
use Rattle.std.specs.Global.{Vec}
use denote.Ref.{Bor}
use Rattle.gw_profile.specs.declared.node.GroupNode.{GroupNode}
use Rattle.gw_profile.specs.declared.node.Node.{Node}
use Rattle.gw_profile.specs.Shapes.{Forest, GroupValue, TableValue}
use Rattle.gw_profile.specs.Seen.{node_forest}

-- whatever stands behind them
abbrev pub SameNode : Node → Node → Type 0
SameNode one other = (rest : Forest) → node_forest one rest ≡ node_forest other rest

-- a group without its nodes
abbrev pub group_of : GroupNode → GroupValue
group_of g = record { label = g.label.items; usage = g.usage; card = g.card }

-- a borrowed table
abbrev pub lent_table : Bor (List ℕ) × Bor (List (Vec ℕ)) → TableValue
lent_table t = record { name = t.0.now; values = map (λ v. v.items) t.1.now }
