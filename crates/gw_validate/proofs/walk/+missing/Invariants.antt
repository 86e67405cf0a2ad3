use Rattle.std.proofs.Common.{◌≡◌, drop}
use Rattle.gw_validate.specs.own.Shortest.{head, shortest}
use Rattle.gw_profile.specs.Seen.{forest}
use Rattle.gw_validate.proofs.walk.+missing.Given as goal

abbrev pub invariant-missing_nodes-loop-node : goal.invariant-missing_nodes-loop-node
invariant-missing_nodes-loop-node l = head (shortest (forest l.nodes)) ≡ head (shortest (forest (drop l.node-index l.nodes)))
