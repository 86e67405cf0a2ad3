use Rattle.gw_log.proofs.Moments.{joined, stepped, torn_none}
use Rattle.gw_log.proofs.steps.write_synced.Goals as goal

pub returns-in_err-write_at-clause-any_moment : goal.returns-in_err-write_at-clause-any_moment
returns-in_err-write_at-clause-any_moment g c =
    stepped _ _ _ _ _ _ g.met.D.Disk.only_now c.write_at.ensures.time (torn_none _ _ _ _) c.write_at.ensures.crash

pub returns-clause-any_moment : goal.returns-clause-any_moment
returns-clause-any_moment g c =
    let first = stepped _ _ _ _ _ _ g.met.D.Disk.only_now c.write_at.ensures.time (torn_none _ _ _ _) c.write_at.ensures.crash in
    joined _ _ _ _ _ _ first (stepped _ _ _ _ _ _ g.met.D.Disk.only_now c.sync.ensures.time c.write_at.ensures.crash
    (λ f may. c.write_at.ensures.crash f (c.sync.ensures.crash f may)))
