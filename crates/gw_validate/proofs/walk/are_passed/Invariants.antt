use Rattle.std.proofs.Common.{drop}
use Rattle.gw_validate.proofs.Walking.{Reaches}
use Rattle.gw_validate.proofs.walk.are_passed.Given as goal

abbrev pub invariant-loop-node : goal.invariant-loop-node
invariant-loop-node l = Reaches l.nodes (drop l.node-index l.nodes) l.name
