use Rattle.std.proofs.Common.{◌≡◌, drop}
use Rattle.gw_leaves.specs.Leaves.{either, first_presence}
use Rattle.gw_leaves.specs.Uses.{sources_value}
use Rattle.gw_leaves.specs.own.Held.{others_value}
use Rattle.gw_leaves.proofs.presence.others_presence.Given as goal

abbrev pub invariant-loop-other : goal.invariant-loop-other
invariant-loop-other l =
    first_presence (sources_value l.sources) (others_value l.sources l.others) ≡ either l.presence (first_presence (sources_value l.sources) (others_value l.sources (drop l.other-index l.others)))
