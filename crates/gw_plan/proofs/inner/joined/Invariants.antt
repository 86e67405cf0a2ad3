use Rattle.std.proofs.Common.{◌≡◌, ◌++◌, drop, map}
use Rattle.gw_plan.specs.Joined.{joined}
use Rattle.gw_plan.proofs.inner.joined.Given as goal

abbrev pub invariant-loop-line : goal.invariant-loop-line
invariant-loop-line l = l.text.items ++ joined (map (λ line. line.now) (drop l.line-index l.lines)) ≡ joined (map (λ line. line.now) l.lines)
