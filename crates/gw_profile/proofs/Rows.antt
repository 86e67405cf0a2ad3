-- The nodes of a group as a list.
use Rattle.std.proofs.Common.{◌≡◌, ℕ, Bool, true, false, List, [], refl, sym, ap, ◌∙◌}
use Rattle.std.specs.Prelude.{if◌then◌else◌}
use Rattle.gw_profile.specs.Line.{allows}
use Rattle.gw_profile.specs.LookAhead.{first_names, group_ambiguous}
use Rattle.gw_profile.specs.Nodes.{first_of_node, node_ambiguous}
use mathlib.Core.Former.{Count}
use Rattle.gw_profile.specs.declared.node.GroupNode.{GroupNode}
use Rattle.gw_profile.specs.declared.node.Node.{Node, Seg, Group, Group', Row_of-Node, end_of-Node, more_of-Node, items-the_row-Node, items_hidden-the_row-Node-0}
use Rattle.gw_profile.specs.Shapes.{Forest, group}
use Rattle.gw_profile.specs.Seen.{forest, row_forest, node_forest}

row_items : (n : _) (row : Row_of-Node n) → row_forest row ≡ forest (items-the_row-Node n row)
row_items n end_of-Node = refl
row_items n (more_of-Node node rest) = ap (node_forest node) (row_items _ rest)

abbrev row_of : Node → (n : Count) × Row_of-Node n
row_of (Group' label usage card shape row) = (_, row)
row_of (Seg s) = (_, end_of-Node)

-- a group with the nodes behind it
pub group_forest : (g : GroupNode) (rest : Forest) → node_forest (Group g) rest ≡ group (record { label = g.label.items; usage = g.usage; card = g.card }) (forest g.nodes.items) rest
group_forest g rest =
    let row = row_of (Group g) in
    ap (λ f. group (record { label = g.label.items; usage = g.usage; card = g.card }) f rest) (row_items row.0 row.1 ∙ ap forest (items_hidden-the_row-Node-0 g.nodes))

pub first_of_group : (g : GroupNode) → allows g.card.max 1 ≡ true → first_names (forest g.nodes.items) ≡ first_of_node (Group g)
first_of_group g allowed =
    let row = row_of (Group g) in
    ap first_names (sym (row_items row.0 row.1 ∙ ap forest (items_hidden-the_row-Node-0 g.nodes))) ∙ sym (chosen (allows g.card.max 1) _ allowed)
  where
    chosen : (b : Bool) (l : List (List ℕ)) → b ≡ true → (if b then l else []) ≡ l
    chosen true l e = refl
    chosen false l e = absurd (cc)

pub ambiguous_group : (g : GroupNode) (after : List (List ℕ)) → group_ambiguous g.card (forest g.nodes.items) after ≡ node_ambiguous (Group g) after
ambiguous_group g after =
    let row = row_of (Group g) in
    ap (λ f. group_ambiguous g.card f after) (sym (row_items row.0 row.1 ∙ ap forest (items_hidden-the_row-Node-0 g.nodes)))
