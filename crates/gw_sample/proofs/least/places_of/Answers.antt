use Rattle.std.proofs.Common.{[]}
use Rattle.gw_er7.specs.Message.{numbers}
use Rattle.gw_profile.specs.Seen.{field}
use Rattle.gw_sample.specs.own.Least.{keys, field_keys}
use Rattle.gw_sample.proofs.Added.{one_more}
use Rattle.gw_sample.proofs.OneForEach.{one_for_each}
use Rattle.gw_sample.proofs.least.places_of.Goals as goal

pub loop-field-preserved : goal.loop-field-preserved
loop-field-preserved c =
    one_more field_keys field c.args.fields.now c.loop-field.field-index c.field-item.result c.field-item.result
    [] (keys c.loop-field.places.items) (keys c.add_field.new.places.items) c.loop-field-test.true c.field-item.is c.loop-field.invariant
    c.in_ok-add_field.ensures

pub returns-clause-count : goal.returns-clause-count
returns-clause-count c =
    one_for_each numbers field c.loop-field.places.items c.args.fields.now c.loop-field.field-index c.loop-field-test.false c.loop-field.invariant
