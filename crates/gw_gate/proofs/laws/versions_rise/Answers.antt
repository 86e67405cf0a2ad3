use Rattle.gw_gate.specs.Meaning.{Makes}
use Rattle.gw_gate.proofs.Releasing.{lawful_versions}
use Rattle.gw_gate.proofs.laws.versions_rise.Goals as goal

pub returns : goal.returns
returns c = lawful_versions Makes
