use Rattle.gw_due.proofs.Restarting.{tells}
use Rattle.gw_due.proofs.laws.a_start_tells.Goals as goal

pub returns : goal.returns
returns c = tells
