use Rattle.gw_ledger.proofs.Ledging.{one_reading}
use Rattle.gw_ledger.proofs.laws.one_reading.Goals as goal

pub returns : goal.returns
returns c = one_reading
