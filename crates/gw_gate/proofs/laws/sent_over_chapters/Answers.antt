use Rattle.gw_gate.specs.Meaning.{Makes}
use Rattle.gw_gate.proofs.Chaptered.{joined_in_order, joined_versions, joined_numbers}
use Rattle.gw_gate.proofs.laws.sent_over_chapters.Goals as goal

pub returns-clause-order : goal.returns-clause-order
returns-clause-order c first more all follow r = joined_in_order Makes first more r all follow

pub returns-clause-versions : goal.returns-clause-versions
returns-clause-versions c = joined_versions Makes

pub returns-clause-numbers : goal.returns-clause-numbers
returns-clause-numbers c = joined_numbers Makes
