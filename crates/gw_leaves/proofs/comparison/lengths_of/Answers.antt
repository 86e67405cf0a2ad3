use Rattle.std.proofs.Common.{None, refl, ap, sym, ◌∙◌}
use Rattle.std.specs.Prelude.{option_map, unwrap_or, []}
use Rattle.gw_leaves.specs.Context.{context_of}
use Rattle.gw_leaves.specs.Texts.{rows_value}
use Rattle.gw_leaves.specs.own.Comparisons.{some_values}
use Rattle.gw_leaves.proofs.Comparing.{of_all, of_listed, of_looked, of_missing}
use Rattle.gw_leaves.proofs.comparison.lengths_of.Goals as goal

pub returns-in_default : goal.returns-in_default
returns-in_default c =
    of_all (context_of c.args.source.now c.args.target.now c.args.map.now) c.args.comparison c.count-to.result c.table_named-table.result (option_map rows_value c.looked_up-rows.result) c.count-to.ensures c.table_named-table.ensures
    c.looked_up-rows.ensures c.of_rows.result c.in_default.is c.of_rows.ensures

pub returns-in-Some-rows : goal.returns-in-Some-rows
returns-in-Some-rows c =
    of_looked (context_of c.args.source.now c.args.target.now c.args.map.now) c.args.comparison c.count-to.result c.table_named-table.result (option_map rows_value c.looked_up-rows.result) c.count-to.ensures c.table_named-table.ensures
    c.looked_up-rows.ensures c.count-count.result c.in-Some.listed (some_values c.table-listed.result) (rows_value c.in-Some-rows.rows) c.of_looked_up.result c.count-count.ensures c.in-Some.is
    (ap (λ o. unwrap_or o []) c.table-listed.ensures) (ap (option_map rows_value) c.in-Some-rows.is) c.of_looked_up.ensures

pub returns-in-None : goal.returns-in-None
returns-in-None c =
    of_listed (context_of c.args.source.now c.args.target.now c.args.map.now) c.args.comparison c.count-to.result c.table_named-table.result None c.count-to.ensures c.table_named-table.ensures
    (sym (ap (option_map rows_value) c.in_default-rows.is) ∙ c.looked_up-rows.ensures) c.count-count.result c.in-Some.listed c.values_of.result.now c.of_values.result c.count-count.ensures c.in-Some.is c.values_of.ensures c.of_values.ensures

pub returns-in-Some-name : goal.returns-in-Some-name
returns-in-Some-name c =
    of_missing (context_of c.args.source.now c.args.target.now c.args.map.now) c.args.comparison c.count-to.result c.table_named-table.result None c.count-to.ensures c.table_named-table.ensures
    (sym (ap (option_map rows_value) c.in_default-rows.is) ∙ c.looked_up-rows.ensures) c.in-Some.listed c.in-Some-name.field-0 c.args.values.now c.of_unlisted.result c.in-Some.is c.in-Some-name.is refl c.requires c.of_unlisted.ensures
