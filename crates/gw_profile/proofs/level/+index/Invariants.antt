use Rattle.std.proofs.Common.{◌≡◌, ◌++◌, drop, map}
use Rattle.gw_profile.specs.Seen.{forest}
use Rattle.gw_profile.specs.Labels.{inner}
use Rattle.gw_profile.proofs.level.+index.Given as goal

abbrev pub invariant-each_within-loop-node : goal.invariant-each_within-loop-node
invariant-each_within-loop-node l = map inner l.nodes ≡ map forest l.below.items ++ map inner (drop l.node-index l.nodes)
