use Rattle.std.proofs.Common.{vec_len}
use Rattle.gw_validate.proofs.Joined.{Comes}
use Rattle.gw_validate.proofs.walk.advance_on.Given as goal

abbrev pub invariant-loop-frame : goal.invariant-loop-frame
invariant-loop-frame l = Comes l.initial.stack.items l.stack.items l.name

abbrev pub decreases-loop-frame : goal.decreases-loop-frame
decreases-loop-frame l = vec_len l.stack
