use Rattle.gw_audit.proofs.Turning.{even_next_at}
use Rattle.gw_reorder.proofs.Places.{differs}
use Rattle.gw_gate.proofs.Lending.{lent_at}
use Rattle.gw_audit.proofs.turning_points.first_even.Goals as goal

pub returns : goal.returns
returns c test turns =
    rw (c.copied.ensures, lent_at _ _ _ c.get.ensures.lookup) (even_next_at test _ _ _ turns (c.passed-count.ensures turns.rising) (differs _ 0 c.if-count-eq0.false))
