use Rattle.gw_mllp.proofs.Once.{overlong_exactly}
use Rattle.gw_mllp.proofs.laws.long_exactly.Goals as goal

pub returns : goal.returns
returns c = overlong_exactly
