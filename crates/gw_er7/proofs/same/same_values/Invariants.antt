use Rattle.std.proofs.Common.{◌≡◌, ◌↔◌, drop, length}
use Rattle.std.specs.List.{AllZip}
use Rattle.gw_er7.specs.View.{entry_of}
use Rattle.gw_er7.proofs.same.same_values.Given as goal

abbrev pub invariant-loop-i : goal.invariant-loop-i
invariant-loop-i l = record {
  long : length l.values ≡ length l.others;
  rest : AllZip (λ a b. entry_of a ≡ entry_of b) l.values l.others ↔ AllZip (λ a b. entry_of a ≡ entry_of b) (drop l.i l.values) (drop l.i l.others);
}
