use Rattle.gw_profile.proofs.WellFormed.{spelled_is}
use Rattle.gw_profile.proofs.laws.spelled_is_well_formed.Goals as goal

pub returns : goal.returns
returns c = spelled_is
