use Rattle.std.proofs.Common.{◌≡◌, ◌+◌, drop, map}
use Rattle.gw_plan.specs.Inner.{broken}
use Rattle.gw_plan.proofs.inner.broken.Given as goal

abbrev pub invariant-loop-i : goal.invariant-loop-i
invariant-loop-i l = broken (l.first + l.i) (map (λ line. line.now) (drop l.i l.lines)) ≡ broken l.first (map (λ line. line.now) l.lines)
