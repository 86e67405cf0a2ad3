use Rattle.std.proofs.lemmas.Result.{on_ok_weaker}
use Rattle.gw_page.specs.Samples.{sample}
use Rattle.gw_page.proofs.Joins.{four}
use Rattle.gw_page.proofs.samples.put_sample.Goals as goal

pub returns : goal.returns
unfolding sample
returns c =
    let joined = four _ _ _ _ _ _ _ _ _
    c.in_ok-put.ensures c.in_ok-put_label.ensures (rw c.figure_of.ensures at c.in_ok-put_number.ensures) in
    on_ok_weaker c.put-2.result joined c.put-2.ensures
