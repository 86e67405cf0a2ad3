use Rattle.gw_due.proofs.Pairs.{pairs}
use Rattle.gw_due.proofs.laws.one_name.Goals as goal

pub returns : goal.returns
returns g c = pairs g.R.Rules.routes
