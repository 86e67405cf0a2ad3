-- How the parts of a profile stand for the lines that they were built from.
use Rattle.std.specs.Prelude.{◌≡◌, ℕ, Option, unwrap_or, List, ◌∷◌, map, reverse, Result}
use Rattle.std.specs.Global.{Vec}
use Rattle.gw_lines.specs.Reading.{Gives}
use Rattle.gw_profile.specs.declared.fault.ProfileFault.{ProfileFault}
use Rattle.gw_profile.specs.declared.fault.ProfileFault.TheVariants.{Memory}
use Rattle.gw_profile.specs.declared.build.Below.{Below}
use Rattle.gw_profile.specs.declared.node.Node.{Node}
use Rattle.gw_profile.specs.Shapes.{Forest, group, TableValue, ProfileValue}
use Rattle.gw_profile.specs.declared.shape.Usage.{Usage}
use Rattle.gw_profile.specs.declared.shape.Usage.TheVariants.{O}
use Rattle.gw_profile.specs.declared.shape.Card.{Card}
use Rattle.gw_profile.specs.declared.shape.Count.{Count}
use Rattle.gw_profile.specs.Line.{Line}
use Rattle.gw_profile.specs.Seen.{sub, comp, field, forest, node_forest}
use Rattle.gw_profile.specs.Whole.{empty_group, is_headed, filled}
use Rattle.gw_profile.specs.declared.build.Built.{Built}
use Rattle.gw_profile.specs.Value.{Parts, Nodes, parts, nodes}

-- lists that were built from their last item on
abbrev pub parts_of : Below → Parts
parts_of b = record { subs = map sub (reverse b.subs.items); comps = map comp (reverse b.comps.items); fields = map field (reverse b.fields.items) }

abbrev pub forests : List (Vec Node) → List Forest
forests behind = reverse (map (λ v. forest (reverse v.items)) behind)

abbrev pub nodes_of : Below → Nodes
nodes_of b = record { here = forest (reverse b.nodes.items); behind = forests b.behind.items }

-- what these lines spell
pub record Stands (below : Below) (lines : List Line) : Type 0 where
  pub has_parts : parts_of below ≡ parts lines
  pub has_nodes : nodes_of below ≡ nodes lines
  pub has_empty : below.empty ≡ empty_group lines

-- this line was put above the others
abbrev pub Grows : Below → Below → Line → Type 0
Grows old new line = (lines : List Line) → Stands old lines → Stands new (line ∷ lines)

-- the node is a group of these nodes
abbrev pub IsGroup : Node → List ℕ → Option Usage → Card → List Node → Type 0
IsGroup node label usage card nodes = (rest : Forest) → node_forest node rest ≡ group (record { label = label; usage = unwrap_or usage O; card = card }) (forest nodes) rest

abbrev pub built : Built → List ℕ × Count × Forest
built b = (b.name.items, b.count, forest b.nodes.items)

-- the same with its tables
abbrev pub built_value : Built → List TableValue → ProfileValue
built_value b tables = record { name = b.name.items; count = b.count; tables = tables; nodes = forest b.nodes.items }

-- whatever its tables are, it keeps the rules of the whole for these lines, or this is their fault
abbrev pub KeepsRules : {A : Type 0} → List Line → Built → Result A ProfileFault → Type 0
KeepsRules lines b result =
    (tables : List TableValue) → Gives Memory (λ _. built_value b tables) result (filled b.empty (is_headed lines) (built_value b tables))
