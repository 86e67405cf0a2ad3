use Rattle.std.proofs.Common.{subst}
use Rattle.gw_leaves.specs.Texts.{rows_value}
use Rattle.gw_leaves.specs.own.Comparisons.{AddsFirst, some_values}
use Rattle.gw_leaves.proofs.Ordered.{more_firsts}
use Rattle.gw_leaves.proofs.comparison.of_firsts.Goals as goal

pub loop-first-preserved : goal.loop-first-preserved
loop-first-preserved c =
    let count = c.args.texts.count in
    let to = c.args.to in
    let values = some_values c.args.table in
    let rows = rows_value c.args.texts.rows in
    let texts = some_values c.args.texts.listed in
    let old = c.loop-first.made.keys in
    let new = c.add_first.new.lengths.keys in
    more_firsts count to values rows texts c.args.firsts.now c.loop-first.first-index c.first-item.result old new c.loop-first-test.true c.first-item.is
    (subst (AddsFirst count to values rows texts old new) c.deref.ensures.value c.in_ok-add_first.ensures) c.loop-first.invariant
