use Rattle.std.proofs.Common.{◌≡◌, drop}
use Rattle.gw_leaves.specs.own.Comparisons.{first_length, is_missing, some_values}
use Rattle.gw_leaves.proofs.listing.first_unlisted.Given as goal

abbrev pub invariant-loop-value : goal.invariant-loop-value
invariant-loop-value l = first_length (is_missing (some_values l.table)) l.values ≡ first_length (is_missing (some_values l.table)) (drop l.value-index l.values)
