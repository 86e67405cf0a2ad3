use Rattle.std.proofs.Common.{◌∙◌, sym, arith}
use Rattle.gw_audit.proofs.Turning.{with_later, with_past}
use Rattle.gw_reorder.proofs.Places.{equals}
use Rattle.gw_gate.proofs.Lending.{lent_at}
use Rattle.gw_audit.proofs.turning_points.first_with.Goals as goal

pub returns-then-v-count : goal.returns-then-v-count
returns-then-v-count c test holds = with_past test _ _ _ _ holds (c.passed-count.ensures holds.rising) c.if-v-count.true

pub returns-then-v-count-2 : goal.returns-then-v-count-2
returns-then-v-count-2 c test holds = record {
  above = omega arith;
  holds = holds.tells _ _ (c.passed-count.ensures holds.rising) ∙ equals _ _ (sym c.if-v-count-2.true);
  before = λ p above below. absurd (omega arith);
}

pub returns : goal.returns
returns c test holds =
    let a = c.if-v-count.false in let b = c.if-v-count-2.false in
    rw (c.copied.ensures, lent_at _ _ _ c.get.ensures.lookup) (with_later test _ _ _ _ holds (c.passed-count.ensures holds.rising) (omega (arith, a, b)))
