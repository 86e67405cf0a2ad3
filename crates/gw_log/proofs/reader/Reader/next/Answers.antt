use Rattle.std.proofs.Common.{◌≡◌, refl, rules, length}
use Rattle.gw_log.proofs.Denying.{handed_on}
use Rattle.gw_log.proofs.Places.{reader_next}
use Rattle.gw_log.proofs.reader.Reader.next.Goals as goal

pub returns-clause-some : goal.returns-clause-some
returns-clause-some g c =
    let len : c.len.result ≡ length c.in_ok-record.record.items = search rules in
    rw (← c.self.view_is) (λ honest before read.
    reader_next _ _ _ before _ _ _ read c.record_at.ensures.seen refl c.saturating_add-self-inside.ensures len refl (c.in_ok-record.ensures.ok honest))

pub returns-in_err-record-clause-damaged : goal.returns-in_err-record-clause-damaged
returns-in_err-record-clause-damaged g c =
    rw (← c.self.view_is) (λ honest segment at fault.
    c.in_err-record.ensures.damaged honest segment at (handed_on c.from_residual.result _ _ c.from_residual.ensures fault))
