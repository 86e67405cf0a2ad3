use Rattle.std.proofs.Common.{◌-◌}
use Rattle.gw_er7.specs.View.{is_within}
use Rattle.gw_er7.proofs.Finds.{IsBetween}
use Rattle.gw_er7.proofs.counts.count_within.Given as goal

abbrev pub invariant-loop-low : goal.invariant-loop-low
invariant-loop-low l = IsBetween (is_within l.prefix) l.values l.low l.high

abbrev pub decreases-loop-low : goal.decreases-loop-low
decreases-loop-low l = l.high - l.low
