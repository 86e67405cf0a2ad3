use Rattle.gw_log.proofs.Placing.{gap}
use Rattle.gw_log.proofs.laws.no_gap.Goals as goal

pub returns : goal.returns
returns c = λ id files from head records n log is. gap id files from head records n log is.none is.next
