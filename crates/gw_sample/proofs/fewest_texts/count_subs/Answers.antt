use Rattle.std.proofs.Common.{arith}
use Rattle.gw_profile.specs.Seen.{sub}
use Rattle.gw_sample.specs.FewestTexts.{of_sub}
use Rattle.gw_sample.proofs.Counting.{sum_more}
use Rattle.gw_sample.proofs.fewest_texts.count_subs.Goals as goal

pub overflow_add-count : goal.overflow_add-count
overflow_add-count c = omega (arith, c.loop-sub.invariant, c.count_sub.ensures)

pub loop-sub-preserved : goal.loop-sub-preserved
loop-sub-preserved c =
    sum_more of_sub sub c.args.subs.now c.loop-sub.sub-index c.sub-item.result c.sub-item.result 524289 c.loop-sub.count c.count_sub.result c.min-count.result
    c.loop-sub-test.true c.sub-item.is c.loop-sub.invariant c.count_sub.ensures c.min-count.ensures
