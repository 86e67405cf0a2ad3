use Rattle.std.proofs.Common.{subst, sym}
use Rattle.gw_gate.specs.Lawful.{IsLawful, empty}
use Rattle.gw_gate.specs.Headline.{IsTranslated}
use Rattle.gw_gate.specs.Meaning.{Makes}
use Rattle.gw_gate.proofs.gate.Gate.begin_from.Goals as goal

pub invariant_of-result : goal.invariant_of-result
invariant_of-result c = subst (IsLawful (IsTranslated Makes)) (sym c.open.ensures) empty
