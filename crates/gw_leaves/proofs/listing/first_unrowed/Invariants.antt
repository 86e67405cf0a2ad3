use Rattle.std.proofs.Common.{◌≡◌, drop}
use Rattle.gw_leaves.specs.Texts.{rows_value}
use Rattle.gw_leaves.specs.own.Comparisons.{first_length, is_lacking}
use Rattle.gw_leaves.proofs.listing.first_unrowed.Given as goal

abbrev pub invariant-loop-value : goal.invariant-loop-value
invariant-loop-value l = first_length (is_lacking (rows_value l.rows)) l.values ≡ first_length (is_lacking (rows_value l.rows)) (drop l.value-index l.values)
