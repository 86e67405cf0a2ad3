use Rattle.gw_validate.proofs.Judged.{tree_names_fit}
use Rattle.gw_validate.proofs.laws.tree_names_fit.Goals as goal

pub returns : goal.returns
returns c = λ p m t wf is. tree_names_fit p m wf.determined t is
