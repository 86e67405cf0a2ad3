use Rattle.std.proofs.Common.{sym, refl, Some, None}
use Rattle.gw_validate.proofs.Joined.{head_popped}
use Rattle.gw_validate.proofs.walk.missing.Goals as goal

pub returns-in-Some-missing_node : goal.returns-in-Some-missing_node
returns-in-Some-missing_node c =
    sym (head_popped c.in-Some.frame c.args.stack.items c.pop.new.self.items c.loop-frame.stack.items (Some c.in-Some-missing_node.name) _ c.loop-frame.invariant c.in-Some.ensures.items c.in-Some-missing_node.ensures refl)

pub returns-in-Some-missing_nodes : goal.returns-in-Some-missing_nodes
returns-in-Some-missing_nodes c =
    sym (head_popped c.in-Some.frame c.args.stack.items c.pop.new.self.items c.loop-frame.stack.items None (Some c.in-Some-missing_nodes.name) c.loop-frame.invariant c.in-Some.ensures.items c.in_default-missing_node.ensures c.in-Some-missing_nodes.ensures)

pub loop-frame-preserved : goal.loop-frame-preserved
loop-frame-preserved c =
    head_popped c.in-Some.frame c.args.stack.items c.pop.new.self.items c.loop-frame.stack.items None None c.loop-frame.invariant c.in-Some.ensures.items c.in_default-missing_node.ensures c.in_default-missing_nodes.ensures
