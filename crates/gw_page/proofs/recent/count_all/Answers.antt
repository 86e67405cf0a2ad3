use Rattle.std.proofs.lemmas.List.{get_or_default}
use Rattle.std.proofs.lemmas.List.Edits.{map_over_more}
use Rattle.gw_page.specs.Recent.{counted}
use Rattle.gw_page.proofs.recent.count_all.Goals as goal

pub loop-refused-preserved : goal.loop-refused-preserved
loop-refused-preserved c =
    rw c.count.ensures
    (map_over_more (counted c.args.code.now) c.args.codes.now c.loop-refused.codes c.loop-refused.refused-index _ c.loop-refused-test.true c.loop-refused.invariant
    (get_or_default c.loop-refused.codes c.loop-refused.refused-index _ _ (rw c.loop-refused.auto.codes c.loop-refused-test.true)))
