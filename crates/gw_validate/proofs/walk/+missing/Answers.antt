use Rattle.std.proofs.Common.{sym, ap, ◌∙◌}
use Rattle.gw_validate.specs.own.Shortest.{head, shortest, shortest_node}
use Rattle.gw_profile.specs.Seen.{forest}
use Rattle.gw_validate.proofs.Walking.{shortest_node_group}
use Rattle.gw_validate.proofs.Joined.{head_several}
use Rattle.gw_validate.proofs.walk.+missing.Goals as goal

pub missing_node-returns-in-Group : goal.missing_node-returns-in-Group
missing_node-returns-in-Group t c =
    c.missing_nodes.ensures
    ∙ ap (λ l. head (shortest (forest l))) c.deref.ensures.value
    ∙ ap head (sym (shortest_node_group c.in-Group.group))
    ∙ ap (λ n. head (shortest_node n)) (sym c.in-Group.is)
    ∙ sym (head_several c.args.due.min (shortest_node c.args.node.now) c.if-due-eq0.false)
