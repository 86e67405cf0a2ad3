use Rattle.std.proofs.lemmas.Result.{on_ok_weaker}
use Rattle.gw_page.specs.Status.{line}
use Rattle.gw_page.proofs.Joins.{three}
use Rattle.gw_page.proofs.state.put_line.Goals as goal

pub returns : goal.returns
unfolding line
returns c =
    let joined = three _ _ _ _ _ _ _
    c.in_ok-put_who.ensures c.in_ok-put_stand.ensures in
    on_ok_weaker c.put_numbers.result joined c.put_numbers.ensures
