use Rattle.gw_log.proofs.Placing.{one_headed}
use Rattle.gw_log.proofs.laws.one_head.Goals as goal

pub returns : goal.returns
returns c = one_headed
