use Rattle.std.proofs.lemmas.Result.{on_ok_weaker}
use Rattle.gw_page.specs.Status.{who}
use Rattle.gw_page.proofs.Joins.{four}
use Rattle.gw_page.proofs.state.put_who.Goals as goal

pub returns : goal.returns
unfolding who
returns c =
    let joined = four _ _ _ _ _ _ _ _ _
    (rw c.as_slice.ensures.value at c.in_ok-put_printed.ensures) c.in_ok-put.ensures (rw c.as_slice-2.ensures.value at c.in_ok-put_printed-2.ensures) in
    on_ok_weaker c.put-2.result joined c.put-2.ensures
