use Rattle.gw_validate.proofs.Alone.{one_least}
use Rattle.gw_validate.proofs.laws.one_least.Goals as goal

pub returns : goal.returns
returns c = λ p m a b wf x y. one_least p m wf.determined a b x y
