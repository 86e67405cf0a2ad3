use Rattle.std.proofs.Common.{refl, sym, ap, ◌∙◌, [], take}
use Rattle.std.proofs.lemmas.Result.{IfOk-from_err}
use Rattle.std.proofs.Common.{arith}
use Rattle.std.proofs.lemmas.Grind.{common_steps}
use Rattle.std.proofs.lemmas.List.{take_at}
use Rattle.gw_validate.proofs.Walking.{tried_segment, tried_group, untried_group, tried_at, tried_left_out, tried_end, reaches_all, reaches_on}
use Rattle.gw_validate.proofs.Names.{names_equal}
use Rattle.gw_profile.specs.Seen.{forest}
use Rattle.gw_validate.specs.own.State.{frame_forest}
use Rattle.gw_validate.proofs.walk.+take.Goals as goal

pub take_node-returns-then-same_name : goal.take_node-returns-then-same_name
take_node-returns-then-same_name t c =
    tried_segment c.args.frame c.less_one.result c.args.name c.args.stack.now.items [] c.push.new.self.items c.in-Seg.segment c.deref.result c.in-Seg.is c.deref.ensures.value (sym c.if-not-has_room.ensures) (names_equal _ _ (sym c.if-same_name.ensures)) c.less_one.ensures.min c.less_one.ensures.max c.in_ok-push-in-Seg.ensures.items

pub take_node-returns-in-Taken : goal.take_node-returns-in-Taken
take_node-returns-in-Taken t c =
    tried_group c.args.frame c.less_one.result c.args.name c.args.stack.now.items c.push-in-Group.new.self.items c.take_nodes.new.stack.items c.in-Group.group c.deref-in-Group.result.now c.in-Taken.fields c.in-Group.is c.deref-in-Group.ensures.value (sym c.if-not-has_room.ensures) c.less_one.ensures.min c.less_one.ensures.max c.in_ok-push-in-Group.ensures.items (rw c.in-Taken.is at c.in_ok-fields-in-Group.ensures)

pub take_node-returns-in_default : goal.take_node-returns-in_default
take_node-returns-in_default t c =
    let u = untried_group c.args.frame c.less_one.result c.args.name c.args.stack.now.items c.push-in-Group.new.self.items c.take_nodes.new.stack.items c.in-Group.group c.deref-in-Group.result.now c.in-Group.is c.deref-in-Group.ensures.value c.in_ok-fields-in-Group.field-0 c.in_default.not-Taken c.in_ok-fields-in-Group.ensures in
    rw c.left_out-in_default.ensures (tried_left_out _ (frame_forest c.args.frame) (forest c.args.frame.rest.now) c.args.name _ _ u.0 (c.truncate.ensures.items ∙ ap (take c.len-depth.result) (u.1 ∙ c.in_ok-push-in-Group.ensures.items) ∙ take_at c.args.stack.now.items _ _ (sym (c.len-depth.ensures ∙ c.args.stack.now.ok.0))))

pub take_nodes-returns-in_default : goal.take_nodes-returns-in_default
take_nodes-returns-in_default t c =
    tried_at c.index-nodes-i.result c.card.result _ c.args.nodes.now c.args.name c.args.stack.now.items c.loop-i.stack.items c.take_node.new.stack.items c.loop-i.i c.loop-i-test.true c.index-nodes-i.is c.card.ensures (grind (arith, common_steps)) c.loop-i.invariant.reaches c.in_ok-taken.taken c.loop-i.invariant.kept c.in_default.not-Passed c.in_ok-taken.ensures

pub take_nodes-loop-i-preserved : goal.take_nodes-loop-i-preserved
take_nodes-loop-i-preserved t c =
    let tried = rw c.in-Passed.is at c.in_ok-taken.ensures in
    record {
      reaches = reaches_on c.index-nodes-i.result c.card.result _ c.args.nodes.now c.args.name c.args.stack.now.items c.loop-i.stack.items c.take_node.new.stack.items c.loop-i.i c.loop-i-test.true c.index-nodes-i.is c.card.ensures (grind (arith, common_steps)) c.loop-i.invariant.reaches tried;
      kept = tried.2 ∙ c.loop-i.invariant.kept;
    }

pub take_nodes-returns : goal.take_nodes-returns
take_nodes-returns t c =
    tried_end c.args.nodes.now c.args.name c.args.stack.now.items c.loop-i.stack.items c.loop-i.i c.loop-i-test.false c.loop-i.invariant.reaches c.loop-i.invariant.kept

pub take_node-returns-in_err-push-in-Group : goal.take_node-returns-in_err-push-in-Group
take_node-returns-in_err-push-in-Group t c = IfOk-from_err _ _ c.from_residual-in_err-push-in-Group.ensures.0

pub take_node-returns-in_err-push-in-Seg : goal.take_node-returns-in_err-push-in-Seg
take_node-returns-in_err-push-in-Seg t c = IfOk-from_err _ _ c.from_residual.ensures.0

pub take_node-returns-in_err-fields-in-Group : goal.take_node-returns-in_err-fields-in-Group
take_node-returns-in_err-fields-in-Group t c = IfOk-from_err _ _ c.from_residual-in_err-fields-in-Group.ensures.0

pub take_nodes-returns-in_err-taken : goal.take_nodes-returns-in_err-taken
take_nodes-returns-in_err-taken t c = IfOk-from_err _ _ c.from_residual.ensures.0

pub take_nodes-loop-i-init : goal.take_nodes-loop-i-init
take_nodes-loop-i-init t c = record { reaches = reaches_all c.args.nodes.now c.args.name; kept = refl }
