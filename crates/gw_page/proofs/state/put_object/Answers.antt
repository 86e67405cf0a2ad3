use Rattle.std.proofs.lemmas.Result.{on_ok_weaker}
use Rattle.gw_page.specs.Status.{object}
use Rattle.gw_page.proofs.Joins.{four}
use Rattle.gw_page.proofs.state.put_object.Goals as goal

pub returns : goal.returns
unfolding object
returns c =
    let joined = four _ _ _ _ _ _ _ _ _
    c.in_ok-put_member.ensures c.in_ok-put_flag.ensures c.in_ok-put_flag-2.ensures in
    on_ok_weaker c.put_counted.result joined c.put_counted.ensures
