use Rattle.std.proofs.Common.{◌∙◌, sym, ap}
use Rattle.gw_gate.specs.Seen.{message_seen}
use Rattle.gw_stream.proofs.Posting.{err_gives}
use Rattle.gw_session.proofs.Arriving.{cuts_after_stale, settles_refused, settles_taken, settles_full, once_more}
use Rattle.gw_session.proofs.arrival.try_once.Goals as goal

pub returns-in_err-copy-in-Stale-clause-err : goal.returns-in_err-copy-in-Stale-clause-err
returns-in_err-copy-in-Stale-clause-err g c =
    let asks = rw c.in-Admitted.is at c.in_ok-why.ensures.asked in
    let came = rw c.in-Stale.is at c.in_ok-number-in-Admitted.ensures.replied in
    err_gives _ (cuts_after_stale _ _ _ _ _ _ asks came)

pub returns-in_ok-refuse-in-Refused-clause-tried : goal.returns-in_ok-refuse-in-Refused-clause-tried
returns-in_ok-refuse-in-Refused-clause-tried g c =
    let asks = rw c.in-Refused.is at c.in_ok-why.ensures.asked in settles_refused _ _ _ _ _ _ _ _ asks c.in_ok-refuse-in-Refused.ensures.refused

pub returns-in-Accepted-clause-tried : goal.returns-in-Accepted-clause-tried
returns-in-Accepted-clause-tried g c =
    let asks = rw c.in-Admitted.is at c.in_ok-why.ensures.asked in
    let came = rw c.in-Accepted.is at c.in_ok-number-in-Admitted.ensures.replied in
    settles_taken _ _ _ _ _ _ asks came

pub returns-in-Full-clause-tried : goal.returns-in-Full-clause-tried
returns-in-Full-clause-tried g c =
    let asks = rw c.in-Admitted.is at c.in_ok-why.ensures.asked in
    let came = rw c.in-Full.is at c.in_ok-number-in-Admitted.ensures.replied in
    settles_full _ _ _ _ _ asks came

pub returns-in_ok-copy-in-Stale-clause-tried : goal.returns-in_ok-copy-in-Stale-clause-tried
returns-in_ok-copy-in-Stale-clause-tried g c =
    let asks = rw c.in-Admitted.is at c.in_ok-why.ensures.asked in
    let came = rw c.in-Stale.is at c.in_ok-number-in-Admitted.ensures.replied in
    let seen = ap message_seen (sym (c.in_ok-copy-in-Stale.ensures ∙ c.message.ensures ∙ ap (λ x. x.tree.message) c.deref.ensures)) in
    once_more _ _ _ _ _ _ _ seen asks came
