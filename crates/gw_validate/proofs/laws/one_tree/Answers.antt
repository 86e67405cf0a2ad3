use Rattle.gw_profile.specs.Deterministic.{NoName}
use Rattle.gw_validate.specs.Conforming.{named, numbers}
use Rattle.gw_validate.proofs.Unique.{one_tree}
use Rattle.gw_validate.proofs.laws.one_tree.Goals as goal

pub returns : goal.returns
returns c = λ p m s t wf h k. one_tree (named m) p.nodes NoName wf.determined s t (numbers p.nodes m) h k
