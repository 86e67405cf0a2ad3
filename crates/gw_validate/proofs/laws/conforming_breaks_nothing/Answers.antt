use Rattle.gw_validate.proofs.Judged.{breaks_nothing}
use Rattle.gw_validate.proofs.laws.conforming_breaks_nothing.Goals as goal

pub returns : goal.returns
returns c = λ p m wf h. breaks_nothing p m wf.determined h
