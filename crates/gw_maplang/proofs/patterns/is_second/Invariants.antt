use Rattle.std.proofs.Common.{◌≡◌, false, drop}
use Rattle.gw_maplang.specs.Patterns.{second_at}
use Rattle.gw_maplang.specs.Seen.{now_all}
use Rattle.gw_maplang.proofs.patterns.is_second.Given as goal

abbrev pub invariant-loop-line : goal.invariant-loop-line
invariant-loop-line l = second_at false (now_all l.above) ≡ second_at l.second (now_all (drop l.line-index l.above))
