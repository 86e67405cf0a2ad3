use Rattle.gw_due.proofs.StateForms.{one_state}
use Rattle.gw_due.proofs.laws.one_checkpoint.Goals as goal

pub returns : goal.returns
returns c = one_state
