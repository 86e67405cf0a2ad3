use Rattle.gw_log.proofs.Placing.{first_of, next_of}
use Rattle.gw_log.proofs.laws.in_place.Goals as goal

pub returns-clause-first : goal.returns-clause-first
returns-clause-first c = first_of

pub returns-clause-next : goal.returns-clause-next
returns-clause-next c = next_of
