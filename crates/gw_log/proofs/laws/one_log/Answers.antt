use Rattle.gw_log.proofs.Alike.{one_log}
use Rattle.gw_log.proofs.laws.one_log.Goals as goal

pub returns : goal.returns
returns c = one_log
