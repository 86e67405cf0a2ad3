use Rattle.std.proofs.lemmas.Result.{on_ok_weaker}
use Rattle.gw_page.specs.Status.{head}
use Rattle.gw_page.proofs.Joins.{three}
use Rattle.gw_page.proofs.state.put_head.Goals as goal

pub returns : goal.returns
unfolding head
returns c =
    let joined = three _ _ _ _ _ _ _
    c.in_ok-put_totals.ensures c.in_ok-put_flag.ensures in
    on_ok_weaker c.put.result joined c.put.ensures
