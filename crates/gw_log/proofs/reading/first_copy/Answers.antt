use Rattle.gw_log.proofs.Places.{gated, none_gated}
use Rattle.gw_log.proofs.reading.first_copy.Goals as goal

pub returns-in_ok-from_slice-in-Some-first_record-clause-some : goal.returns-in_ok-from_slice-in-Some-first_record-clause-some
returns-in_ok-from_slice-in-Some-first_record-clause-some c =
    gated _ c.in-Some.rest.now c.in-Some-first_record.record.now _ _ c.in-Some.gate.now c.in-Some.ensures.cases.0 c.in-Some-first_record.ensures.some c.in_ok-from_slice-in-Some-first_record.ensures.items

pub returns-in-None-clause-none : goal.returns-in-None-clause-none
returns-in-None-clause-none c = none_gated _ c.in-Some.rest.now c.in-Some.gate.now c.in-Some.ensures.cases.0 c.in-None.ensures.none
