use Rattle.std.proofs.Common.{take}
use Rattle.std.specs.Prelude.{option_map}
use Rattle.gw_leaves.specs.Texts.{rows_value}
use Rattle.gw_leaves.specs.own.Comparisons.{AreOfValues, some_values}
use Rattle.gw_leaves.proofs.comparison.of_values.Given as goal

abbrev pub invariant-loop-text : goal.invariant-loop-text
invariant-loop-text l = AreOfValues l.count l.to (some_values l.table) (option_map rows_value l.rows) (take l.text-index l.texts) l.made.keys
