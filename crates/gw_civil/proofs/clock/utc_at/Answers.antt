use Rattle.std.proofs.Common.{rules, ◌≡◌, ◌*◌, pos, ◌*ℤ◌, ◌+ℤ◌, ◌∙◌, ap, refl}
use Rattle.jiff_core.specs.Timestamp.{nanos_of_seconds}
use Rattle.gw_civil.proofs.Passed.{stamp_of}
use Rattle.gw_civil.proofs.clock.utc_at.Goals as goal

pub returns : goal.returns
returns c =
    let value : c.in_ok-ok.field-0 ≡ pos c.args.microseconds = search rules in
    let nanos : c.in_ok-at.at.nanosecond ≡ pos c.args.microseconds *ℤ pos 1000 = search rules in
    let utc : pos c.args.microseconds *ℤ pos 1000 +ℤ nanos_of_seconds (pos 0) ≡ pos (c.args.microseconds * 1000) = search rules in
    stamp_of c.args.microseconds c.to_datetime.result _ (c.in_ok-stamp.ensures.some.0 refl) c.in_ok-stamp.ensures.digits
    (c.to_datetime.ensures ∙ ap (λ z. z +ℤ nanos_of_seconds (pos 0)) nanos ∙ utc)
