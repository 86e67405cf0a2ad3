-- The labels of nodes, level by level.
use Rattle.std.specs.Prelude.{◌≡◌, ℕ, zero, suc, if◌then◌else◌, List, map, Option, Some, None, option_map, bytes_eq}
use Rattle.std.specs.Map.{lookup}
use denote.Ref.{Bor}
use Rattle.gw_profile.specs.declared.node.Node.{Node}
use Rattle.gw_profile.specs.Shapes.{Forest, nothing, segment, group}
use Rattle.gw_profile.specs.Seen.{forest, node_forest}

-- the number, from 0, of the node with this label
abbrev pub labelled : Forest → List ℕ → Option ℕ
labelled nothing label = None
labelled (segment s rest) label = if bytes_eq s.label label then Some 0 else option_map suc (labelled rest label)
labelled (group g nodes rest) label = if bytes_eq g.label label then Some 0 else option_map suc (labelled rest label)

-- the nodes within the node of this number
abbrev pub within : Forest → ℕ → Forest
within nothing i = nothing
within (segment s rest) zero = nothing
within (segment s rest) (suc i) = within rest i
within (group g nodes rest) zero = nodes
within (group g nodes rest) (suc i) = within rest i

-- the nodes of a level, where one is
abbrev pub nodes_in : Option (Bor (List Node)) → Forest
nodes_in None = nothing
nodes_in (Some level) = forest level.now

-- ---- what is kept beside nodes

-- the number that is kept for a label
abbrev pub number_of : List (Bor (List ℕ) × ℕ) → Bor (List ℕ) → Option ℕ
number_of numbers label = lookup (λ k. bytes_eq label.now k.now) numbers

-- for each label the number of the node that has it
abbrev pub Numbers : List (Bor (List ℕ) × ℕ) → List Node → Type 0
Numbers numbers nodes = (label : Bor (List ℕ)) → number_of numbers label ≡ labelled (forest nodes) label.now

-- this number is kept for this label, and for each other label what was kept before
abbrev pub PutsNumber : List ℕ → ℕ → List (Bor (List ℕ) × ℕ) → List (Bor (List ℕ) × ℕ) → Type 0
PutsNumber label number old new = (other : Bor (List ℕ)) → number_of new other ≡ (if bytes_eq label other.now then Some number else number_of old other)

-- the node is looked up by this label, before those that stand behind it
abbrev pub IsLabel : List ℕ → Node → Type 0
IsLabel own node =
    (rest : Forest) (label : List ℕ) → labelled (node_forest node rest) label ≡ (if bytes_eq own label then Some 0 else option_map suc (labelled rest label))

-- the nodes within a node
abbrev pub inner : Node → Forest
inner node = within (node_forest node nothing) 0

-- their labels, and for each the nodes within it
pub record IsIndexed (nodes : List Node) (numbers : List (Bor (List ℕ) × ℕ)) (below : List (List Node)) : Type 0 where
  pub are_numbers : Numbers numbers nodes
  pub are_below : map forest below ≡ map inner nodes
