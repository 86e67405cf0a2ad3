use Rattle.std.proofs.lemmas.Result.{IfOk-from_err}
use Rattle.gw_profile.proofs.level.numbers_of.Goals as goal

pub returns-in_err-put_number : goal.returns-in_err-put_number
returns-in_err-put_number c = IfOk-from_err _ _ c.from_residual.ensures.0
