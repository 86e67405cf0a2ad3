use Rattle.std.proofs.Common.{arith}
use Rattle.gw_profile.specs.Seen.{comp}
use Rattle.gw_sample.specs.FewestTexts.{of_comp}
use Rattle.gw_sample.proofs.Counting.{sum_more}
use Rattle.gw_sample.proofs.fewest_texts.count_comps.Goals as goal

pub overflow_add-count : goal.overflow_add-count
overflow_add-count c = omega (arith, c.loop-comp.invariant, c.count_comp.ensures)

pub loop-comp-preserved : goal.loop-comp-preserved
loop-comp-preserved c =
    sum_more of_comp comp c.args.comps.now c.loop-comp.comp-index c.comp-item.result c.comp-item.result 524289 c.loop-comp.count c.count_comp.result c.min-count.result
    c.loop-comp-test.true c.comp-item.is c.loop-comp.invariant c.count_comp.ensures c.min-count.ensures
