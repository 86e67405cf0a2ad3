use Rattle.std.proofs.lemmas.Result.{on_ok_weaker}
use Rattle.gw_page.specs.Status.{member}
use Rattle.gw_page.proofs.Joins.{three}
use Rattle.gw_page.proofs.state.put_member.Goals as goal

pub returns : goal.returns
unfolding member
returns c =
    let joined = three _ _ _ _ _ _ _
    c.in_ok-put.ensures (rw c.as_slice.ensures.value at c.in_ok-put_printed.ensures) in
    on_ok_weaker c.put-2.result joined c.put-2.ensures
