use Rattle.gw_log.proofs.Entries.{stops_none}
use Rattle.gw_log.proofs.reading.next_record.Goals as goal

pub returns-clause-none : goal.returns-clause-none
returns-clause-none c = stops_none _ _ _ c.in_ok-rest.ensures.some c.first_record.ensures.none
