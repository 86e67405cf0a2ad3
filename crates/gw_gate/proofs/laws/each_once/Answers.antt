use Rattle.gw_gate.specs.Meaning.{Makes}
use Rattle.gw_gate.proofs.Numbering.{lawful_numbers}
use Rattle.gw_gate.proofs.laws.each_once.Goals as goal

pub returns : goal.returns
returns c = lawful_numbers Makes
