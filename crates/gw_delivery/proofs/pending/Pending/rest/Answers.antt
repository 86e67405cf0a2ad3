use Rattle.std.proofs.Common.{refl}
use Rattle.gw_delivery.proofs.Delivering.{kept_stays}
use Rattle.gw_delivery.proofs.pending.Pending.rest.Goals as goal

pub returns-in_default-found-clause-stays : goal.returns-in_default-found-clause-stays
returns-in_default-found-clause-stays g c = kept_stays g.J.Naming.before _ _ refl refl refl
