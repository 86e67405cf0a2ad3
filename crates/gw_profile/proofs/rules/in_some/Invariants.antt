use Rattle.std.proofs.Common.{◌≡◌, drop}
use Rattle.gw_profile.specs.Fault.{is_among}
use Rattle.gw_profile.specs.Nodes.{joined}
use Rattle.gw_profile.proofs.rules.in_some.Given as goal

abbrev pub invariant-loop-names : goal.invariant-loop-names
invariant-loop-names l = is_among l.name (joined l.sets) ≡ is_among l.name (joined (drop l.names-index l.sets))
