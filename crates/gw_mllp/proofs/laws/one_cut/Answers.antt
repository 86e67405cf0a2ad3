use Rattle.gw_mllp.proofs.Unique.{one_cut as cut_once}
use Rattle.gw_mllp.proofs.laws.one_cut.Goals as goal

pub returns : goal.returns
returns c = cut_once
