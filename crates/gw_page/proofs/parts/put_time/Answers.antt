use Rattle.std.proofs.lemmas.Result.{on_ok_weaker}
use Rattle.gw_page.specs.Rows.{readable}
use Rattle.gw_page.proofs.Joins.{three}
use Rattle.gw_page.proofs.parts.put_time.Goals as goal

pub returns : goal.returns
unfolding readable
returns c = on_ok_weaker c.put_clock.result (three _ _ _ _ _ _ _ c.in_ok-put_date.ensures c.in_ok-put.ensures) c.put_clock.ensures
