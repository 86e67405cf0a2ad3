use Rattle.std.proofs.Common.{◌+◌, ◌*◌, length}
use Rattle.gw_interp.proofs.Borrowing.{LeadNowhere}
use Rattle.gw_interp.proofs.places.+first.Given as goal

abbrev pub decreases-first_of_children : goal.decreases-first_of_children
decreases-first_of_children l = 2 * length l.steps.now + 1

abbrev pub decreases-first_below : goal.decreases-first_below
decreases-first_below l = 2 * length l.steps.now

abbrev pub invariant-first_of_children-loop-k : goal.invariant-first_of_children-loop-k
invariant-first_of_children-loop-k l = LeadNowhere l.above l.child l.steps l.k
