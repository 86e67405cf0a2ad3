use Rattle.std.proofs.Common.{◌≡◌, ◌↔◌, drop, length}
use Rattle.std.specs.List.{AllZip}
use Rattle.gw_er7.proofs.same.are_same.Given as goal

abbrev pub invariant-loop-i : goal.invariant-loop-i
invariant-loop-i g l = record {
  long : length l.parts ≡ length l.others;
  rest : AllZip g.T.Part.same l.parts l.others ↔ AllZip g.T.Part.same (drop l.i l.parts) (drop l.i l.others);
}
