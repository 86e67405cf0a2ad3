use Rattle.gw_log.proofs.Placing.{none_within}
use Rattle.gw_log.proofs.Denying.{handed_on, headed_same, none_of, only_of, unheaded_same}
use Rattle.gw_log.proofs.numbering.find_id.Goals as goal

pub returns-then-last-first-clause-none : goal.returns-then-last-first-clause-none
returns-then-last-first-clause-none g c = λ honest n. none_within _ _ _ c.if-last-first.true (c.in_ok-first.ensures.ends honest) n

pub returns-in_err-id-clause-damaged : goal.returns-in_err-id-clause-damaged
returns-in_err-id-clause-damaged g c = λ honest segment at fault.
    let none = c.in_err-id.ensures.damaged honest segment at
    (handed_on c.from_residual-in_err-id.result _ _ c.from_residual-in_err-id.ensures fault) in
    none_of _ _ _ (c.in_ok-first.ensures.ends (c.id_in.ensures.reads.back honest))
    (unheaded_same _ _ _ c.ends.ensures.seen none)

pub returns-clause-id : goal.returns-clause-id
returns-clause-id g c = λ honest.
    only_of _ _ _ _ (c.in_ok-first.ensures.ends (c.id_in.ensures.reads.back honest))
    (headed_same _ _ _ _ c.ends.ensures.seen (c.in_ok-id.ensures.id honest))
