use Rattle.gw_crew.proofs.Carrying.{waits_none, waits_again, full_so, none_so}
use Rattle.gw_crew.proofs.couriers.next.Goals as goal

pub waits-init : goal.waits-init
waits-init g c = record { waits = waits_none _ _ }

pub returns-in-Full-clause-comes : goal.returns-in-Full-clause-comes
returns-in-Full-clause-comes g c = let gave = rw c.in-Full.is at c.in_ok-n.ensures.gave in full_so _ _ _ _ c.waits.invariant.waits gave.noted

pub returns-then-not-wait-clause-comes : goal.returns-then-not-wait-clause-comes
returns-then-not-wait-clause-comes g c =
    let gave = rw c.in-Nothing.is at c.in_ok-n.ensures.gave in none_so _ _ _ _ _ c.waits.invariant.waits gave.noted c.wait.ensures

pub waits-preserved : goal.waits-preserved
waits-preserved g c =
    let gave = rw c.in-Nothing.is at c.in_ok-n.ensures.gave in record { waits = waits_again _ _ _ _ _ c.waits.invariant.waits gave.noted c.wait.ensures }
