use Rattle.std.proofs.Common.{take}
use Rattle.gw_leaves.specs.own.Comparisons.{AreFirstsOf, some_values}
use Rattle.gw_leaves.proofs.comparison.of_firsts.Given as goal

abbrev pub invariant-loop-first : goal.invariant-loop-first
invariant-loop-first l = AreFirstsOf l.texts l.to (some_values l.table) (take l.first-index l.firsts) l.made.keys
