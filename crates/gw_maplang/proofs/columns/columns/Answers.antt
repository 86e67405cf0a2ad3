use Rattle.std.proofs.Common.{map, sym, subst}
use Rattle.gw_maplang.specs.Among.{Distinct}
use Rattle.gw_maplang.specs.Lawful.{table_names}
use Rattle.gw_maplang.specs.Seen.{wide_table}
use Rattle.gw_maplang.proofs.ColumnNames.{all_columns_names, all_distinct}
use Rattle.gw_maplang.proofs.LawfulColumns.{are_named}
use Rattle.gw_maplang.proofs.columns.columns.Goals as goal

pub by_names-requires : goal.by_names-requires
by_names-requires c =
    let tables = map wide_table c.args.tables.now.entries in
    subst (λ ts. Distinct (table_names ts)) (sym c.in_ok-all.ensures)
    (subst Distinct (sym (all_columns_names c.args.second tables)) (all_distinct c.args.second tables (are_named tables c.requires.each) c.requires.distinct))
