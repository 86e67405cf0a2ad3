use Rattle.std.proofs.lemmas.Result.{IfOk-from_err}
use Rattle.gw_profile.proofs.Inner.{group_indexed}
use Rattle.gw_profile.proofs.level.+index.Goals as goal

pub within-returns-in-Group : goal.within-returns-in-Group
within-returns-in-Group t c = group_indexed c.index.result c.args.node.now c.in-Group.group c.deref.result.now c.in-Group.is c.deref.ensures.value c.index.ensures

pub each_within-returns-in_err-one : goal.each_within-returns-in_err-one
each_within-returns-in_err-one t c = IfOk-from_err _ _ c.from_residual.ensures.0

pub each_within-returns-in_err-push : goal.each_within-returns-in_err-push
each_within-returns-in_err-push t c = IfOk-from_err _ _ c.from_residual-in_err-push.ensures.0

pub index-returns-in_err-below : goal.index-returns-in_err-below
index-returns-in_err-below t c = IfOk-from_err _ _ c.from_residual-in_err-below.ensures.0

pub index-returns-in_err-numbers : goal.index-returns-in_err-numbers
index-returns-in_err-numbers t c = IfOk-from_err _ _ c.from_residual.ensures.0
