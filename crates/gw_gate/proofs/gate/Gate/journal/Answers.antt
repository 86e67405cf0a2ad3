use Rattle.std.proofs.Common.{subst}
use Rattle.gw_gate.specs.Journal.{Journal}
use Rattle.gw_gate.specs.Headline.{InOrder, Numbered, VersionsRise}
use Rattle.gw_gate.specs.Meaning.{Makes}
use Rattle.gw_gate.proofs.Numbering.{lawful_numbers}
use Rattle.gw_gate.proofs.Releasing.{lawful_in_order, lawful_versions}
use Rattle.gw_gate.proofs.gate.Gate.journal.Goals as goal

pub returns-clause-in_order : goal.returns-clause-in_order
returns-clause-in_order c = λ r. subst (λ (j : Journal). InOrder Makes j r) c.self.view_is (lawful_in_order Makes c.self.inside.books r c.self.invariant)

pub returns-clause-versions : goal.returns-clause-versions
returns-clause-versions c = subst VersionsRise c.self.view_is (lawful_versions Makes c.self.inside.books c.self.invariant)

pub returns-clause-numbered : goal.returns-clause-numbered
returns-clause-numbered c = subst Numbered c.self.view_is (lawful_numbers Makes c.self.inside.books c.self.invariant)
