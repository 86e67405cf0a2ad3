use Rattle.std.proofs.lemmas.Result.{IfOk-weaker}
use Rattle.gw_validate.proofs.Walking.{tried_behind}
use Rattle.gw_validate.proofs.walk.take_frame.Goals as goal

pub returns-in-Passed : goal.returns-in-Passed
returns-in-Passed c =
    IfOk-weaker c.take_nodes.result _ _
    (λ s. tried_behind c.args.frame c.args.frame.due c.args.name c.args.stack.now.items c.take_node.new.stack.items c.take_nodes.new.stack.items s (rw c.in-Passed.is at c.in_ok-take_node.ensures))
    c.take_nodes.ensures
