use Rattle.std.proofs.lemmas.Result.{on_ok_weaker}
use Rattle.gw_page.specs.Rows.{date}
use Rattle.gw_page.proofs.Joins.{five}
use Rattle.gw_page.proofs.parts.put_date.Goals as goal

pub returns : goal.returns
unfolding date
returns c =
    let joined = five _ _ _ _ _ _ _ _ _ _ _
    c.in_ok-put.ensures c.in_ok-put-2.ensures c.in_ok-put-3.ensures c.in_ok-put-4.ensures in
    on_ok_weaker c.put-5.result joined c.put-5.ensures
