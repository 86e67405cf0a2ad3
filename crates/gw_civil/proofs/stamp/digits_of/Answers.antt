use Rattle.gw_civil.proofs.Stamped.{fourteen}
use Rattle.gw_civil.proofs.stamp.digits_of.Goals as goal

pub returns-clause-stamp : goal.returns-clause-stamp
returns-clause-stamp c =
    fourteen _ _ _ _ _ _ _ _ _ _ _ _ _ _ c.two-century.ensures.first c.two-century.ensures.second c.two-year.ensures.first c.two-year.ensures.second c.two-month.ensures.first c.two-month.ensures.second
    c.two-day.ensures.first c.two-day.ensures.second c.two-hour.ensures.first c.two-hour.ensures.second c.two-minute.ensures.first c.two-minute.ensures.second c.two-second.ensures.first c.two-second.ensures.second
