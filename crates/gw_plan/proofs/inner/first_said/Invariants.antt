use Rattle.std.proofs.Common.{◌≡◌, ◌+◌, drop, map}
use Rattle.gw_plan.specs.Inner.{first_said}
use Rattle.gw_plan.proofs.inner.first_said.Given as goal

abbrev pub invariant-loop-i : goal.invariant-loop-i
invariant-loop-i l = first_said (l.first + l.i) (map (λ line. line.now) (drop l.i l.lines)) ≡ first_said l.first (map (λ line. line.now) l.lines)
