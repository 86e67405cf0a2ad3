use Rattle.std.proofs.Common.{◌++◌}
use Rattle.gw_journal.specs.Logs.{records_of}
use Rattle.gw_journal.proofs.Leaving.{through}
use Rattle.gw_journal.proofs.job.turn.Goals as goal

pub returns-in_err-begin_next-clause-any_moment : goal.returns-in_err-begin_next-clause-any_moment
returns-in_err-begin_next-clause-any_moment g c = λ these stand told spared.
    through g.S.Storage.leaves g.met.S.Storage.goes_on g.met.S.Storage.widens _ _ _ these (these ++ records_of c.args.batch.now)
    (c.put.ensures.any_moment these stand) (c.begin_next.ensures.any_moment _ (c.in_ok-put.ensures.ok these stand) told spared)

pub returns-clause-any_moment : goal.returns-clause-any_moment
returns-clause-any_moment g c = λ these stand told spared.
    let given = c.in_ok-put.ensures.ok these stand in
    through g.S.Storage.leaves g.met.S.Storage.goes_on g.met.S.Storage.widens _ _ _ these (these ++ records_of c.args.batch.now)
    (through g.S.Storage.leaves g.met.S.Storage.goes_on g.met.S.Storage.widens _ _ _ these (these ++ records_of c.args.batch.now)
    (c.put.ensures.any_moment these stand) (c.begin_next.ensures.any_moment _ given told spared))
    (c.retire.ensures.any_moment _ (c.in_ok-begin_next.ensures.ok _ given told spared))
