use Rattle.std.proofs.Common.{sym, ap, ◌∙◌}
use Rattle.gw_profile.specs.declared.shape.Card.{Card}
use Rattle.gw_validate.specs.own.Residual.{has_room}
use Rattle.gw_profile.specs.Seen.{forest}
use Rattle.gw_profile.specs.Nodes.{card_of}
use Rattle.gw_validate.specs.own.Tests.{can_begin, node_begins}
use Rattle.gw_validate.proofs.Walking.{begins_group}
use Rattle.gw_validate.proofs.build.+begin.Goals as goal

pub node_begins-returns-in-Group : goal.node_begins-returns-in-Group
node_begins-returns-in-Group t c =
    c.can_begin.ensures ∙ ap (λ l. can_begin (forest l) c.args.name) c.deref.ensures.value
    ∙ begins_group c.in-Group.group c.args.name (sym (c.if-not-has_room.ensures ∙ ap (λ (k : Card). has_room k.max) (c.card.ensures ∙ ap card_of c.in-Group.is))) ∙ ap (λ n. node_begins n c.args.name) (sym c.in-Group.is)
