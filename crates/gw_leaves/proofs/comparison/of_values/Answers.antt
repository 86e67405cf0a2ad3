use Rattle.std.proofs.Common.{ap, subst, ◌∙◌}
use Rattle.std.specs.Prelude.{option_map}
use Rattle.gw_maplang.specs.Seen.{now}
use Rattle.gw_leaves.specs.Texts.{rows_value}
use Rattle.gw_leaves.specs.own.Comparisons.{Adds, some_values, size_of, given_by}
use Rattle.gw_leaves.proofs.Comparing.{more_values}
use Rattle.gw_leaves.proofs.comparison.of_values.Goals as goal

pub loop-text-preserved : goal.loop-text-preserved
loop-text-preserved c =
    let to = c.args.to in
    let values = some_values c.args.table in
    let rows = option_map rows_value c.args.rows in
    let old = c.loop-text.made.keys in
    let new = c.add.new.lengths.keys in
    let x = c.text-item.result in
    more_values to values c.args.count rows c.args.texts.now c.loop-text.text-index x old new c.loop-text-test.true c.text-item.is
    (subst (λ t. Adds to values old new (size_of c.args.count x.items) t) (c.given.ensures ∙ ap (given_by rows) c.deref-in-loop-text.ensures.value)
    (subst (λ n. Adds to values old new n (now c.given.result)) (c.size_of-size.ensures ∙ ap (size_of c.args.count) c.deref.ensures.value) c.in_ok-add.ensures)) c.loop-text.invariant
