use Rattle.std.proofs.lemmas.Result.{on_ok_weaker}
use Rattle.gw_page.specs.Rows.{header}
use Rattle.gw_page.proofs.Joins.{five}
use Rattle.gw_page.proofs.parts.put_header.Goals as goal

pub returns : goal.returns
unfolding header
returns c =
    let joined = five _ _ _ _ _ _ _ _ _ _ _
    c.in_ok-put.ensures (rw c.as_slice.ensures.value at c.in_ok-put_escaped.ensures) c.in_ok-put-2.ensures c.in_ok-put_standing.ensures in
    on_ok_weaker c.put-3.result joined c.put-3.ensures
