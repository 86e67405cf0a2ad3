use Rattle.std.proofs.Common.{◌≡◌, ◌↔◌, drop, length}
use Rattle.std.specs.List.{AllZip}
use Rattle.gw_er7.proofs.spans.same_spans.Given as goal

abbrev pub invariant-loop-i : goal.invariant-loop-i
invariant-loop-i g l = record {
  long : length l.spans ≡ length l.others;
  rest : AllZip (λ a b. g.N.Width.said a ≡ g.N.Width.said b) l.spans l.others ↔ AllZip (λ a b. g.N.Width.said a ≡ g.N.Width.said b) (drop l.i l.spans) (drop l.i l.others);
}
