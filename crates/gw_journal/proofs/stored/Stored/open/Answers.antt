use Rattle.gw_journal.specs.Logs.{records_of}
use Rattle.gw_journal.proofs.Beginning.{leaves_kept, tells_last}
use Rattle.gw_journal.proofs.stored.Stored.open.Goals as goal

pub returns-in-Err-clause-any_moment_err : goal.returns-in-Err-clause-any_moment_err
returns-in-Err-clause-any_moment_err g c = λ did.
    leaves_kept g.K.Summary.tells g.K.Summary.spares g.D.Disk.moment g.D.Disk.left_since c.args.id (g.D.Disk.seen c.args.disk) c.args.disk _ (c.in-Err.ensures.any_moment_err did)

pub returns-in-Ok-clause-ok : goal.returns-in-Ok-clause-ok
returns-in-Ok-clause-ok g c = λ all kept did. record {
  from = kept.from;
  head = kept.head;
  kept = kept.kept;
  covers = kept.covers;
  holds = c.in-Ok.ensures.ok did kept.from kept.head kept.kept kept.log;
  id = c.in-Ok.ensures.id;
}

pub returns-in-Ok-clause-last : goal.returns-in-Ok-clause-last
returns-in-Ok-clause-last g c = λ did all kept.
    tells_last g.K.Summary.tells g.K.Summary.spares c.args.id (g.D.Disk.seen c.args.disk) (records_of c.in-Ok.rows.items) all (c.in-Ok.ensures.records did) kept

pub returns-in-Ok-clause-any_moment : goal.returns-in-Ok-clause-any_moment
returns-in-Ok-clause-any_moment g c = λ did.
    leaves_kept g.K.Summary.tells g.K.Summary.spares g.D.Disk.moment g.D.Disk.left_since c.args.id (g.D.Disk.seen c.args.disk) c.args.disk _ (c.in-Ok.ensures.any_moment did)
