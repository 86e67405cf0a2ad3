use Rattle.std.proofs.lemmas.Result.{on_ok_weaker}
use Rattle.gw_page.proofs.Joins.{further}
use Rattle.gw_page.proofs.exposition.put_others.Goals as goal

pub returns : goal.returns
returns c =
    let two = further _ _ _ c.in_ok-put_family.ensures c.in_ok-put_family-2.ensures in
    let four = further _ _ _ (further _ _ _ two c.in_ok-put_metric.ensures) c.in_ok-put_answers.ensures in
    let six = further _ _ _ (further _ _ _ four c.in_ok-put_family-3.ensures) c.in_ok-put_family-4.ensures in
    on_ok_weaker c.put_family-5.result (further _ _ _ six) c.put_family-5.ensures
