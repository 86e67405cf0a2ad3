use Rattle.gw_mllp.proofs.Once.{stands_once}
use Rattle.gw_mllp.proofs.laws.one_decoder.Goals as goal

pub returns : goal.returns
returns c = stands_once
