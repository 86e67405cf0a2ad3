use Rattle.gw_profile.proofs.Ambiguity.{not_ambiguous_is}
use Rattle.gw_profile.proofs.laws.ambiguous_is_not_deterministic.Goals as goal

pub returns : goal.returns
returns c = not_ambiguous_is
