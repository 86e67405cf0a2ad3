use Rattle.gw_sample.proofs.Headers.{each_has_one}
use Rattle.gw_sample.proofs.laws.each_profile_has_one.Goals as goal

pub returns : goal.returns
returns c = each_has_one
