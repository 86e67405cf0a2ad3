use Rattle.gw_profile.proofs.Follows.{taken_back}
use Rattle.gw_profile.proofs.rules.take_back.Goals as goal

pub returns-in-Some : goal.returns-in-Some
returns-in-Some c = λ sets held e. taken_back _ _ sets _ held c.in-Some.ensures.items e
