use Rattle.std.proofs.Common.{refl}
use Rattle.gw_delivery.proofs.Delivering.{kept_stays}
use Rattle.gw_delivery.proofs.pending.Pending.is_ready.Goals as goal

pub returns-then-is_held-clause-stays : goal.returns-then-is_held-clause-stays
returns-then-is_held-clause-stays g c = kept_stays g.J.Naming.before _ _ refl refl refl
