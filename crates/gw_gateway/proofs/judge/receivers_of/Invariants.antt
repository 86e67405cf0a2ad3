use Rattle.std.proofs.Common.{map, take}
use Rattle.gw_gateway.proofs.Routing.{AreFirst}
use Rattle.gw_gateway.proofs.judge.receivers_of.Given as goal

abbrev pub invariant-loop-leg : goal.invariant-loop-leg
invariant-loop-leg g l = AreFirst l.numbers (take l.leg (map (λ x. x.0) l.route.legs)) l.to.items
