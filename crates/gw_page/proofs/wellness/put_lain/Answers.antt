use Rattle.std.proofs.lemmas.Result.{on_ok_weaker}
use Rattle.gw_page.specs.Health.{lain}
use Rattle.gw_page.proofs.Joins.{five}
use Rattle.gw_page.proofs.wellness.put_lain.Goals as goal

pub returns : goal.returns
unfolding lain
returns c =
    let joined = five _ _ _ _ _ _ _ _ _ _ _
    c.in_ok-put.ensures (rw c.as_slice.ensures.value at c.in_ok-put-2.ensures) c.in_ok-put-3.ensures c.in_ok-put_number.ensures in
    on_ok_weaker c.put-4.result joined c.put-4.ensures
