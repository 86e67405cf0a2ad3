use Rattle.std.proofs.Common.{◌≡◌, ◌+◌, ◌++◌, take, length, ap, subst, sym, ◌∙◌, arith}
use Rattle.gw_journal.specs.Logs.{JobState, Log, bytes_of, log_in, records_of}
use Rattle.gw_journal.proofs.Leaving.{left_given, left_all, none_lost, spared_of, told_of}
use Rattle.gw_journal.proofs.Logging.{done_all, given_all, records_size}
use Rattle.gw_journal.proofs.job.Job.run.Goals as goal

pub returns-in-Err-clause-any_moment_err : goal.returns-in-Err-clause-any_moment_err
returns-in-Err-clause-any_moment_err g c =
    let job = c.self.inside in
    rw (← c.self.view_is) (left_given g.S.Storage.leaves g.met.S.Storage.goes_on g.met.S.Storage.widens g.S.Storage.stands g.S.Storage.tells g.S.Storage.spares g.J.Naming.before (record {
      storage = job.storage;
      batch = records_of job.batch.items;
      given = job.given;
      history = job.front;
      next = bytes_of job.checkpoint;
      keep = job.keep;
    })
    (records_of c.deref.result.now) (log_in g.J.Naming.before job.front) c.put.new.self c.self.invariant (ap records_of c.deref.ensures.value) c.put.ensures.any_moment)

pub returns-in-Err-clause-none_is_lost : goal.returns-in-Err-clause-none_is_lost
returns-in-Err-clause-none_is_lost g c =
    let job = c.self.inside in
    rw (← c.self.view_is) (none_lost g.S.Storage.stands g.S.Storage.tells g.S.Storage.spares (record {
      storage = job.storage;
      batch = records_of job.batch.items;
      given = job.given;
      history = job.front;
      next = bytes_of job.checkpoint;
      keep = job.keep;
    }) (log_in g.J.Naming.before job.front) c.self.invariant)

pub invariant_of-result : goal.invariant_of-result
invariant_of-result g c =
    let job = c.self.inside in
    let log : Log = log_in g.J.Naming.before job.front in
    let these = take job.given log.records in
    let count : c.len.result ≡ length (records_of job.batch.items) = omega (arith, c.len.ensures, job.batch.ok, records_size job.batch.items) in
    let stand = subst (λ b. g.S.Storage.stands c.put.new.self (these ++ records_of b)) c.deref.ensures.value (c.in-Ok.ensures.ok these c.self.invariant.keeps) in
    done_all g.S.Storage.stands g.J.Naming.before g.S.Storage.tells g.S.Storage.spares (record {
      storage = job.storage;
      batch = records_of job.batch.items;
      given = job.given;
      history = job.front;
      next = bytes_of job.checkpoint;
      keep = job.keep;
    }) c.put.new.self (job.given + c.len.result) log c.self.invariant
    (ap (λ n. job.given + n) count) stand

pub returns-in-None-clause-any_moment : goal.returns-in-None-clause-any_moment
returns-in-None-clause-any_moment g c =
    let job = c.self.inside in
    rw (← c.self.view_is) (left_given g.S.Storage.leaves g.met.S.Storage.goes_on g.met.S.Storage.widens g.S.Storage.stands g.S.Storage.tells g.S.Storage.spares g.J.Naming.before (record {
      storage = job.storage;
      batch = records_of job.batch.items;
      given = job.given;
      history = job.front;
      next = bytes_of job.checkpoint;
      keep = job.keep;
    })
    (records_of c.deref.result.now) (log_in g.J.Naming.before job.front) c.put.new.self c.self.invariant (ap records_of c.deref.ensures.value) c.put.ensures.any_moment)

pub returns-in-None-clause-none_is_lost : goal.returns-in-None-clause-none_is_lost
returns-in-None-clause-none_is_lost g c =
    let job = c.self.inside in
    rw (← c.self.view_is) (none_lost g.S.Storage.stands g.S.Storage.tells g.S.Storage.spares (record {
      storage = job.storage;
      batch = records_of job.batch.items;
      given = job.given;
      history = job.front;
      next = bytes_of job.checkpoint;
      keep = job.keep;
    }) (log_in g.J.Naming.before job.front) c.self.invariant)

pub returns-in-Err-turn-clause-any_moment_err : goal.returns-in-Err-turn-clause-any_moment_err
returns-in-Err-turn-clause-any_moment_err g c =
    let job = c.self.inside in
    rw (← c.self.view_is) (left_all g.S.Storage.leaves g.met.S.Storage.goes_on g.met.S.Storage.widens g.S.Storage.stands g.S.Storage.tells g.S.Storage.spares g.J.Naming.before (record {
      storage = job.storage;
      batch = records_of job.batch.items;
      given = job.given;
      history = job.front;
      next = bytes_of job.checkpoint;
      keep = job.keep;
    })
    (records_of c.deref-in-Some.result.now) c.deref-in-Some-2.result.now c.in-Some.checkpoint.items (log_in g.J.Naming.before job.front) c.turn.new.storage c.self.invariant
    (ap bytes_of c.in-Some.is) (ap records_of c.deref-in-Some.ensures.value) c.deref-in-Some-2.ensures.value c.turn.ensures.any_moment)

pub returns-in-Err-turn-clause-none_is_lost : goal.returns-in-Err-turn-clause-none_is_lost
returns-in-Err-turn-clause-none_is_lost g c =
    let job = c.self.inside in
    rw (← c.self.view_is) (none_lost g.S.Storage.stands g.S.Storage.tells g.S.Storage.spares (record {
      storage = job.storage;
      batch = records_of job.batch.items;
      given = job.given;
      history = job.front;
      next = bytes_of job.checkpoint;
      keep = job.keep;
    }) (log_in g.J.Naming.before job.front) c.self.invariant)

pub invariant_of-result-in-Ok-turn : goal.invariant_of-result-in-Ok-turn
invariant_of-result-in-Ok-turn g c =
    let job = c.self.inside in
    let log : Log = log_in g.J.Naming.before job.front in
    let taken : JobState g.row.S.Denot = record {
      storage = job.storage;
      batch = records_of job.batch.items;
      given = job.given;
      history = job.front;
      next = bytes_of job.checkpoint;
      keep = job.keep;
    } in
    let these = take job.given log.records in
    let count : c.len.result ≡ length (records_of job.batch.items) = omega (arith, c.len.ensures, job.batch.ok, records_size job.batch.items) in
    let same : records_of c.deref-in-Some.result.now ≡ records_of job.batch.items = ap records_of c.deref-in-Some.ensures.value in
    let all : these ++ records_of c.deref-in-Some.result.now ≡ log.records =
    ap (λ b. these ++ b) same ∙ given_all g.S.Storage.stands g.J.Naming.before g.S.Storage.tells g.S.Storage.spares taken log c.self.invariant in
    let told = told_of g.S.Storage.tells (bytes_of job.checkpoint) c.in-Some.checkpoint.items log.records (ap bytes_of c.in-Some.is) c.self.invariant.told in
    let spared = spared_of (g.S.Storage.spares log.records job.keep) (bytes_of job.checkpoint) c.in-Some.checkpoint.items (ap bytes_of c.in-Some.is) c.self.invariant.spared in
    let stand = c.in-Ok-turn.ensures.ok these c.self.invariant.keeps
    (subst (λ rs. g.S.Storage.tells rs c.deref-in-Some-2.result.now) (sym all) (subst (λ b. g.S.Storage.tells log.records b) (sym c.deref-in-Some-2.ensures.value) told))
    (subst (λ rs. g.S.Storage.spares rs job.keep) (sym all) spared) in
    done_all g.S.Storage.stands g.J.Naming.before g.S.Storage.tells g.S.Storage.spares taken c.turn.new.storage (job.given + c.len.result) log c.self.invariant (ap (λ n. job.given + n) count)
    (subst (λ b. g.S.Storage.stands c.turn.new.storage (these ++ b)) same stand)

pub returns-clause-any_moment : goal.returns-clause-any_moment
returns-clause-any_moment g c =
    let job = c.self.inside in
    rw (← c.self.view_is) (left_all g.S.Storage.leaves g.met.S.Storage.goes_on g.met.S.Storage.widens g.S.Storage.stands g.S.Storage.tells g.S.Storage.spares g.J.Naming.before (record {
      storage = job.storage;
      batch = records_of job.batch.items;
      given = job.given;
      history = job.front;
      next = bytes_of job.checkpoint;
      keep = job.keep;
    })
    (records_of c.deref-in-Some.result.now) c.deref-in-Some-2.result.now c.in-Some.checkpoint.items (log_in g.J.Naming.before job.front) c.turn.new.storage c.self.invariant
    (ap bytes_of c.in-Some.is) (ap records_of c.deref-in-Some.ensures.value) c.deref-in-Some-2.ensures.value c.turn.ensures.any_moment)

pub returns-clause-none_is_lost : goal.returns-clause-none_is_lost
returns-clause-none_is_lost g c =
    let job = c.self.inside in
    rw (← c.self.view_is) (none_lost g.S.Storage.stands g.S.Storage.tells g.S.Storage.spares (record {
      storage = job.storage;
      batch = records_of job.batch.items;
      given = job.given;
      history = job.front;
      next = bytes_of job.checkpoint;
      keep = job.keep;
    }) (log_in g.J.Naming.before job.front) c.self.invariant)
