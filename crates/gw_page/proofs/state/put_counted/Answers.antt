use Rattle.std.proofs.lemmas.Result.{on_ok_weaker}
use Rattle.gw_page.specs.Status.{counted}
use Rattle.gw_page.proofs.Joins.{six}
use Rattle.gw_page.proofs.state.put_counted.Goals as goal

pub returns : goal.returns
unfolding counted
returns c =
    let joined = six _ _ _ _ _ _ _ _ _ _ _ _ _
    c.in_ok-put_field.ensures c.in_ok-put_field-2.ensures c.in_ok-put_field-3.ensures c.in_ok-put_field-4.ensures c.in_ok-put_field-5.ensures in
    on_ok_weaker c.put.result joined c.put.ensures
