use Rattle.std.proofs.lemmas.Result.{on_ok_weaker}
use Rattle.gw_page.specs.Samples.{label}
use Rattle.gw_page.proofs.Joins.{three}
use Rattle.gw_page.proofs.samples.put_label.Goals as goal

pub returns : goal.returns
unfolding label
returns c = on_ok_weaker c.put-2.result (three _ _ _ _ _ _ _ c.in_ok-put.ensures (rw c.as_slice.ensures.value at c.in_ok-put_quoted.ensures)) c.put-2.ensures
