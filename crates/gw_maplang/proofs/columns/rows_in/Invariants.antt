use Rattle.std.proofs.Common.{◌≡◌, map, take, None}
use Rattle.gw_maplang.specs.Columns.{row_in}
use Rattle.gw_maplang.specs.Seen.{wide_row}
use Rattle.gw_maplang.proofs.columns.rows_in.Given as goal

abbrev pub invariant-loop-i : goal.invariant-loop-i
invariant-loop-i l = l.table ≡ record { rows = map (row_in l.k) (map wide_row (take l.i l.rows.entries)); other = None }
