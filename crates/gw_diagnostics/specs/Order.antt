-- The order in which the failures of a map are reported.
use Rattle.std.specs.Prelude.{ℕ, ◌+◌, ◌*◌, List, IsPermutation, IsSortedByKey}
use Rattle.std.specs.List.Sorted.{IsStableByKey}
use Rattle.std.specs.Ordering.{nat_cmp}
use Rattle.gw_resolve.specs.declared.failure.Failure.{Failure}

-- by line, and of a line by rule
abbrev pub place_of : Failure → ℕ
place_of f = f.mark.line * 256 + f.rule

-- each failure that was found, once; those of a rule at a line as they were found
pub record AreInOrder (found reported : List Failure) : Type 0 where
  pub each : IsPermutation found reported
  pub rises : IsSortedByKey place_of nat_cmp reported
  pub stays : IsStableByKey place_of nat_cmp found reported
