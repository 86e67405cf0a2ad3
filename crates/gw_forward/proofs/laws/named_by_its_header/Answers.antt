use Rattle.gw_forward.proofs.Naming.{named}
use Rattle.gw_forward.proofs.laws.named_by_its_header.Goals as goal

pub returns : goal.returns
returns c = named
