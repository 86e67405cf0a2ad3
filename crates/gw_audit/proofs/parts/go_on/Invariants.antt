use Rattle.gw_audit.proofs.Following.{Goes}
use Rattle.gw_audit.proofs.parts.go_on.Given as goal

abbrev pub invariant-loop-place : goal.invariant-loop-place
invariant-loop-place l = Goes l.parts l.place
