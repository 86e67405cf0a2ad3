use Rattle.gw_profile.proofs.Ambiguity.{ambiguous_is}
use Rattle.gw_profile.proofs.laws.ambiguous_names_the_first.Goals as goal

pub returns : goal.returns
returns c = ambiguous_is
