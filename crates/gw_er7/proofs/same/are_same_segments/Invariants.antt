use Rattle.std.proofs.Common.{◌≡◌, drop, length}
use Rattle.gw_er7.proofs.same.are_same_segments.Given as goal

abbrev pub invariant-loop-i : goal.invariant-loop-i
invariant-loop-i l = record {
  long : length l.message ≡ length l.other;
  rest : drop l.i l.message ≡ drop l.i l.other → l.message ≡ l.other;
}
