use Rattle.gw_profile.specs.Deterministic.{NoName}
use Rattle.gw_validate.specs.Conforming.{names}
use Rattle.gw_validate.proofs.Runs.{one_completion}
use Rattle.gw_validate.proofs.laws.one_completion.Goals as goal

pub returns : goal.returns
returns c = λ p m a b wf x y. one_completion p.nodes NoName wf.determined (names p.nodes m) a b x y
