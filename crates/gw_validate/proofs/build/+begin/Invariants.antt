use Rattle.std.proofs.Common.{◌≡◌, drop}
use Rattle.gw_profile.specs.Seen.{forest}
use Rattle.gw_validate.specs.own.Tests.{can_begin}
use Rattle.gw_validate.proofs.build.+begin.Given as goal

abbrev pub invariant-can_begin-loop-node : goal.invariant-can_begin-loop-node
invariant-can_begin-loop-node l = can_begin (forest l.nodes) l.name ≡ can_begin (forest (drop l.node-index l.nodes)) l.name
