use Rattle.std.proofs.Common.{◌≡◌, ap, arith}
use Rattle.gw_log.specs.Chain.{Head}
use Rattle.gw_log.proofs.Denying.{handed_on, no_record_there, no_head_there, other_there}
use Rattle.gw_log.proofs.place.head_of.Goals.{then-head-number-via-then-head-number, then-head-number-via-else-head-number+then-head-id}
use Rattle.gw_log.proofs.place.head_of.Goals as goal

pub returns-in_err-bytes-clause-damaged : goal.returns-in_err-bytes-clause-damaged
returns-in_err-bytes-clause-damaged g c = λ honest segment at fault.
    no_record_there c.args.id c.args.number _
    (c.in_err-bytes.ensures.damaged honest segment at (handed_on c.from_residual.result _ _ c.from_residual.ensures fault))

pub returns-in_default-clause-damaged : goal.returns-in_default-clause-damaged
returns-in_default-clause-damaged g c = λ honest segment at fault.
    no_head_there c.args.id c.args.number _ _ _ (c.in_ok-bytes.ensures.ok honest).has c.deref.ensures.value c.in_default.ensures.none

pub returns-then-head-number-clause-damaged : goal.returns-then-head-number-clause-damaged
returns-then-head-number-clause-damaged g c = λ honest segment at fault.
    let number : c.head.inside.number ≡ c.in-Some.head.number = ap (λ (h : Head). h.number) c.head.view_is in
    let its_id : c.head.inside.id ≡ c.in-Some.head.id = ap (λ (h : Head). h.id) c.head.view_is in
    other_there c.args.id c.args.number c.in-Some.head _ _ _ (c.in_ok-bytes.ensures.ok honest).has c.deref.ensures.value c.in-Some.ensures.some
    c.in-Some.ensures.wide (λ same here. elim c.then-head-number.branch [
      | then-head-number-via-then-head-number w ↦ omega (arith, w.if-head-number.true, number, same)
      | then-head-number-via-else-head-number+then-head-id w ↦ omega (arith, w.if-head-id.true, its_id, here)
    ])
