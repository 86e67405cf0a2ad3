use Rattle.gw_log.proofs.Placing.{none_within}
use Rattle.gw_log.proofs.log.head_alone.Goals as goal

pub returns-clause-none : goal.returns-clause-none
returns-clause-none g c = λ honest number. none_within _ _ _ c.if-first-last.false (c.in_ok-first.ensures.ends honest) number
