use Rattle.std.proofs.Common.{◌≡◌, drop}
use Rattle.gw_leaves.specs.Reached.{unreached}
use Rattle.gw_leaves.specs.Uses.{sources_value}
use Rattle.gw_leaves.specs.own.Held.{others_value}
use Rattle.gw_leaves.proofs.reached.unreached_in.Given as goal

abbrev pub invariant-loop-i : goal.invariant-loop-i
invariant-loop-i l = unreached (sources_value l.sources) (others_value l.sources l.others) ≡ unreached (sources_value l.sources) (others_value l.sources (drop l.i l.others))
