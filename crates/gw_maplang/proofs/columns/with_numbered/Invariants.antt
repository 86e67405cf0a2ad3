use Rattle.std.proofs.Common.{◌≡◌, ◌++◌, map}
use Rattle.gw_maplang.specs.Columns.{numbered}
use Rattle.gw_maplang.specs.Seen.{table}
use Rattle.gw_maplang.specs.own.Widths.{wide_named}
use Rattle.gw_maplang.proofs.columns.with_numbered.Given as goal

abbrev pub invariant-loop-k : goal.invariant-loop-k
invariant-loop-k l = map table l.all.items ≡ map table l.initial.all.items ++ numbered l.k (wide_named l.name l.wide)
