use Rattle.std.proofs.Common.{map, take}
use Rattle.gw_due.specs.Starting.{Starts}
use Rattle.gw_due.proofs.starting.start.Given as goal

abbrev pub invariant-loop-at : goal.invariant-loop-at
invariant-loop-at l = Starts l.checkpoint (take l.at (map (λ r. r.items) l.records)) l.state
