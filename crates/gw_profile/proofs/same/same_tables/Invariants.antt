use Rattle.std.proofs.Common.{◌≡◌, ◌↔◌, drop, length, map}
use Rattle.gw_profile.specs.Seen.{table}
use Rattle.gw_profile.proofs.same.same_tables.Given as goal

abbrev pub invariant-loop-i : goal.invariant-loop-i
invariant-loop-i l = record {
  long : length l.tables.entries ≡ length l.others.entries;
  rest : (map table l.tables.entries ≡ map table l.others.entries) ↔ (drop l.i (map table l.tables.entries) ≡ drop l.i (map table l.others.entries));
}
