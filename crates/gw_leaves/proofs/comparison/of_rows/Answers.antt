use Rattle.std.proofs.Common.{Some, sym, subst}
use Rattle.std.specs.Prelude.{option_map}
use Rattle.gw_leaves.specs.Texts.{rows_value}
use Rattle.gw_leaves.specs.own.Comparisons.{Adds, AreOfRows, some_values}
use Rattle.gw_leaves.proofs.Comparing.{all_rows}
use Rattle.gw_leaves.proofs.comparison.of_rows.Goals as goal

pub returns : goal.returns
returns c =
    let values = some_values c.args.table in
    let old = c.in_ok-made.made.keys in
    let new = c.add.new.lengths.keys in
    subst (λ r. AreOfRows c.args.to values (option_map rows_value r) new) (sym c.in-Some.is)
    (subst (λ r. AreOfRows c.args.to values (Some (rows_value r)) new) (sym c.in-Some-found.is)
    (all_rows c.args.to values c.in-Some-found.rows.now c.seconds_of.result.now old new c.seconds_of.ensures
    (subst (λ t. Adds c.args.to values old new 0 t) c.other.ensures c.in_ok-add.ensures) c.in_ok-made.ensures))
