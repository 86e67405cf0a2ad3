use Rattle.std.proofs.Common.{arith}
use Rattle.gw_profile.specs.Seen.{field}
use Rattle.gw_sample.specs.FewestTexts.{of_field}
use Rattle.gw_sample.proofs.Counting.{sum_more}
use Rattle.gw_sample.proofs.fewest_texts.count_fields.Goals as goal

pub overflow_add-count : goal.overflow_add-count
overflow_add-count c = omega (arith, c.loop-field.invariant, c.count_field.ensures)

pub loop-field-preserved : goal.loop-field-preserved
loop-field-preserved c =
    sum_more of_field field c.args.fields.now c.loop-field.field-index c.field-item.result c.field-item.result 524289 c.loop-field.count c.count_field.result c.min-count.result
    c.loop-field-test.true c.field-item.is c.loop-field.invariant c.count_field.ensures c.min-count.ensures
