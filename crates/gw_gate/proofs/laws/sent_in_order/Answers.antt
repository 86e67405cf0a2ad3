use Rattle.gw_gate.specs.Meaning.{Makes}
use Rattle.gw_gate.proofs.Releasing.{lawful_in_order}
use Rattle.gw_gate.proofs.laws.sent_in_order.Goals as goal

pub returns : goal.returns
returns c = lawful_in_order Makes
