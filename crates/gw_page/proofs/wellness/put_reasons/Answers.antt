use Rattle.std.proofs.Common.{rules, append_assoc}
use Rattle.gw_page.specs.Health.{reasons}
use Rattle.gw_page.proofs.wellness.put_reasons.Goals as goal

pub returns : goal.returns
unfolding reasons
returns c = search (rules, append_assoc)
