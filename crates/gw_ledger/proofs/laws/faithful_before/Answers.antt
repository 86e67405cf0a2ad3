use Rattle.gw_ledger.proofs.Ledging.{faithful_part}
use Rattle.gw_ledger.proofs.laws.faithful_before.Goals as goal

pub returns : goal.returns
returns c = faithful_part
