use Rattle.gw_log.proofs.Entries.{any_none, no_record, other_record}
use Rattle.gw_log.proofs.reading.first_record.Goals as goal

pub returns-in_err-item-clause-none : goal.returns-in_err-item-clause-none
returns-in_err-item-clause-none c = any_none _ _ (no_record _ c.in_err-item.ensures.none)

pub returns-in_err-bytes-clause-none : goal.returns-in_err-bytes-clause-none
returns-in_err-bytes-clause-none c = any_none _ _ (other_record _ _ _ c.in_ok-item.ensures.some c.in_err-bytes.ensures.none)
