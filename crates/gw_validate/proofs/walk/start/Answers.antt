use Rattle.gw_validate.proofs.Joined.{start_forest}
use Rattle.gw_validate.proofs.walk.start.Goals as goal

pub returns : goal.returns
returns c =
    rw (c.in_ok-push.ensures.items, c.in_ok-stack.ensures.items, c.in-Some.ensures.cases.0) (start_forest c.in-Some.node.now c.card.result c.in-Some.rest.now c.card.ensures)
