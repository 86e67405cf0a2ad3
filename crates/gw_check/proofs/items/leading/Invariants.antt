use Rattle.gw_check.proofs.Counted.{LeadsSoFar}
use Rattle.gw_check.proofs.items.leading.Given as goal

abbrev pub invariant-loop-i : goal.invariant-loop-i
invariant-loop-i l = LeadsSoFar l.node l.items l.i
