use Rattle.std.proofs.lemmas.Result.{on_ok_weaker}
use Rattle.gw_page.specs.Health.{complaint}
use Rattle.gw_page.proofs.Joins.{four}
use Rattle.gw_page.proofs.wellness.put_complaint.Goals as goal

pub returns : goal.returns
unfolding complaint
returns c =
    let joined = four _ _ _ _ _ _ _ _ _
    c.in_ok-put.ensures (rw c.as_slice.ensures.value at c.in_ok-put-2.ensures) (rw c.is_here.ensures at c.in_ok-put_why.ensures) in
    on_ok_weaker c.put_hold.result joined c.put_hold.ensures
