use Rattle.std.proofs.Common.{◌≡◌, map, take}
use Rattle.gw_maplang.specs.Columns.{all_columns}
use Rattle.gw_maplang.specs.Seen.{table, wide_table}
use Rattle.gw_maplang.proofs.columns.all_columns.Given as goal

abbrev pub invariant-loop-i : goal.invariant-loop-i
invariant-loop-i l = map table l.all.items ≡ all_columns l.second (map wide_table (take l.i l.tables.entries))
