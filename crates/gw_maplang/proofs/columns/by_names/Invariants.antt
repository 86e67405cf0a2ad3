use Rattle.std.proofs.Common.{◌≡◌, ◌++◌, map, reverse, length}
use Rattle.gw_maplang.specs.Among.{Distinct}
use Rattle.gw_maplang.specs.Lawful.{table_names}
use Rattle.gw_maplang.specs.Seen.{table}
use Rattle.gw_maplang.proofs.columns.by_names.Given as goal

abbrev pub invariant-loop-name : goal.invariant-loop-name
invariant-loop-name l = record {
  whole : map table l.tables.entries ++ map table (reverse l.left.items) ≡ map table (reverse l.initial.left.items);
  distinct : Distinct (table_names (map table (reverse l.initial.left.items)));
}

abbrev pub decreases-loop-name : goal.decreases-loop-name
decreases-loop-name l = length l.left.items
