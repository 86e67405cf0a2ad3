use Rattle.std.proofs.Common.{◌-◌, ◌≤◌, length}
use Rattle.gw_mllp.proofs.Occurs.{NoneTo}
use Rattle.gw_mllp.proofs.reach.find_end.Given as goal

abbrev pub invariant-loop-at : goal.invariant-loop-at
invariant-loop-at l = record { within : l.from ≤ length l.bytes; none : NoneTo l.bytes l.from }

abbrev pub decreases-loop-at : goal.decreases-loop-at
decreases-loop-at l = length l.bytes - l.from
