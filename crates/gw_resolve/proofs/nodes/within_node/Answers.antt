use Rattle.std.proofs.Common.{sym, ap, ◌∙◌}
use Rattle.gw_profile.specs.Shapes.{nothing}
use Rattle.gw_profile.specs.Seen.{forest, node_forest}
use Rattle.gw_profile.proofs.Rows.{group_forest}
use Rattle.gw_resolve.specs.Places.{nodes_of_child}
use Rattle.gw_resolve.proofs.nodes.within_node.Goals as goal

pub returns-in-Group : goal.returns-in-Group
returns-in-Group c =
    ap forest c.deref.ensures.value
    ∙ sym (ap (λ n. nodes_of_child (node_forest n nothing) 0) c.in-Group.is ∙ ap (λ f. nodes_of_child f 0) (group_forest c.in-Group.group nothing))
