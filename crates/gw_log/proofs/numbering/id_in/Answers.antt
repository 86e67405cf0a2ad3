use Rattle.std.proofs.Common.{◌∙◌, sym, ap}
use Rattle.gw_log.specs.Chain.{Head}
use Rattle.gw_log.proofs.Denying.{handed_on, headed_by, no_record_there, no_head_there}
use Rattle.gw_log.proofs.numbering.id_in.Goals as goal

pub returns-in_err-bytes-clause-damaged : goal.returns-in_err-bytes-clause-damaged
returns-in_err-bytes-clause-damaged g c = λ honest segment at fault id n.
    no_record_there id n _
    (c.in_err-bytes.ensures.damaged honest segment at (handed_on c.from_residual.result _ _ c.from_residual.ensures fault))

pub returns-in-Some-clause-id : goal.returns-in-Some-clause-id
returns-in-Some-clause-id g c = λ honest other number before has.
    headed_by c.in-Some.head _ _ _ (c.in_ok-bytes.ensures.ok honest).has c.deref.ensures.value c.in-Some.ensures.some c.in-Some.ensures.wide other number before has
    ∙ sym (ap (λ (h : Head). h.id) c.head.view_is)

pub returns-clause-damaged : goal.returns-clause-damaged
returns-clause-damaged g c = λ honest segment at fault id n.
    no_head_there id n _ _ _ (c.in_ok-bytes.ensures.ok honest).has c.deref.ensures.value c.in-None.ensures.none
