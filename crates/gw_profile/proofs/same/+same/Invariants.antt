use Rattle.std.proofs.Common.{◌≡◌, ◌↔◌, drop, length}
use Rattle.gw_profile.specs.Seen.{forest}
use Rattle.gw_profile.proofs.same.+same.Given as goal

abbrev pub invariant-same_nodes-loop-i : goal.invariant-same_nodes-loop-i
invariant-same_nodes-loop-i l = record {
  long : length l.nodes ≡ length l.others;
  rest : (forest l.nodes ≡ forest l.others) ↔ (forest (drop l.i l.nodes) ≡ forest (drop l.i l.others));
}
