use Rattle.std.proofs.lemmas.Result.{on_ok_weaker}
use Rattle.gw_page.specs.Rows.{reason}
use Rattle.gw_page.proofs.Joins.{four}
use Rattle.gw_page.proofs.parts.put_reason.Goals as goal

pub returns : goal.returns
unfolding reason
returns c =
    let joined = four _ _ _ _ _ _ _ _ _
    c.in_ok-put.ensures c.in_ok-put_escaped.ensures (rw c.meaning.ensures at c.in_ok-put-2.ensures) in
    on_ok_weaker c.put-3.result joined c.put-3.ensures
