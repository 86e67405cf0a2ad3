use Rattle.std.proofs.Common.{refl}
use Rattle.gw_gate.proofs.laws.chapters.Goals as goal

pub returns-clause-replies : goal.returns-clause-replies
returns-clause-replies c = refl
