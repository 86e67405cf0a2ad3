use Rattle.std.proofs.Common.{◌-◌}
use Rattle.gw_er7.specs.Message.{numbers}
use Rattle.gw_er7.specs.View.{is_below}
use Rattle.gw_er7.proofs.Finds.{IsBetween}
use Rattle.gw_er7.proofs.search.count_below.Given as goal

abbrev pub invariant-loop-low : goal.invariant-loop-low
invariant-loop-low l = IsBetween (is_below (numbers l.place)) l.values l.low l.high

abbrev pub decreases-loop-low : goal.decreases-loop-low
decreases-loop-low l = l.high - l.low
