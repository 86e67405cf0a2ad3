use Rattle.std.proofs.Common.{◌≡◌, ◌++◌, take}
use Rattle.gw_validate.proofs.Collecting.{at_number}
use Rattle.gw_validate.proofs.collect.find_in_segment.Given as goal

abbrev pub invariant-loop-spot : goal.invariant-loop-spot
invariant-loop-spot l = record {
  found : l.found.items ≡ l.initial.found.items ++ at_number l.number (take l.spot-index l.spot-items);
}
