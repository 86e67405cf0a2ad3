use Rattle.std.proofs.Common.{◌≡◌, ◌≤◌, take}
use Rattle.gw_profile.specs.Seen.{forest}
use Rattle.gw_validate.specs.Conforming.{names}
use Rattle.gw_validate.proofs.next.names_before.Given as goal

abbrev pub invariant-loop-i : goal.invariant-loop-i
invariant-loop-i l = record {
  found : l.found.items ≡ names (forest l.profile.nodes) (take l.i l.message);
  within : l.i ≤ l.number;
}
