use Rattle.gw_session.proofs.Arriving.{if_unreadable}
use Rattle.gw_session.proofs.arrival.settle.Goals as goal

pub returns-in-None-clause-settled : goal.returns-in-None-clause-settled
returns-in-None-clause-settled g c = rw c.in-None.is (if_unreadable c.refuse.result _ _ c.refuse.ensures.refused)
