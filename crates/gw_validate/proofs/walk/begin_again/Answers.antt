use Rattle.std.proofs.Common.{◌∙◌, sym}
use Rattle.gw_validate.proofs.Names.{names_equal}
use Rattle.gw_validate.proofs.Walking.{tries_begun}
use Rattle.gw_validate.proofs.walk.begin_again.Goals as goal

pub returns : goal.returns
returns c = λ stack.
    tries_begun c.args.frame c.less_one.result c.args.name stack c.in-Some.node c.less_one-2.result c.in-Some.rest c.in-Seg.segment c.deref-2.result c.in-Group.group c.in-Group.is (sym c.deref.ensures.value ∙ c.in-Some.ensures.cases.0) (sym c.if-not-has_room.ensures) c.less_one.ensures.min c.less_one.ensures.max
    c.in-Seg.is c.deref-2.ensures.value (sym c.if-not-has_room-2.ensures) (names_equal _ _ (sym c.if-not-same_name.ensures)) c.less_one-2.ensures.min c.less_one-2.ensures.max
