use Rattle.std.proofs.Common.{ap, ◌∙◌}
use Rattle.gw_profile.specs.declared.shape.Usage.{Usage}
use Rattle.gw_profile.specs.Shapes.{group}
use Rattle.gw_profile.specs.Seen.{forest}
use Rattle.gw_profile.proofs.Rows.{group_forest}
use Rattle.gw_profile.proofs.build.group_node.Goals as goal

pub returns : goal.returns
returns c = λ rest.
    group_forest (record { label = c.args.label; usage = c.unwrap_or.result; card = c.args.card; nodes = c.args.nodes }) rest
    ∙ ap (λ (u : Usage). group (record { label = c.args.label.items; usage = u; card = c.args.card }) (forest c.args.nodes.items) rest) c.unwrap_or.ensures
