use Rattle.std.proofs.lemmas.Result.{err_from_is_err_and}
use Rattle.gw_due.specs.own.StateReading.{many_at}
use Rattle.gw_due.proofs.StateForms.{goes_on, ends, is_done}
use Rattle.gw_due.proofs.checkpoint.many_at.Goals as goal

pub returns-in_err-one : goal.returns-in_err-one
returns-in_err-one c =
    let p = err_from_is_err_and c.from_residual.result c.from_residual.ensures.1 in
    rw (p.1, p.2) (ends c.in_err-one.field-0.0 c.loop.all.items c.args.count c.loop.counter c.loop.rest.now (many_at c.args.count c.args.bytes.now) c.loop-test.true c.in_err-one.ensures c.loop.invariant)

pub loop-preserved : goal.loop-preserved
loop-preserved c =
    rw c.in_ok-push.ensures.items (goes_on c.loop.all.items c.args.count c.loop.counter c.loop.rest.now c.in_ok-one.one c.in_ok-one.after.now (many_at c.args.count c.args.bytes.now) c.loop-test.true c.in_ok-one.ensures c.loop.invariant)

pub returns : goal.returns
returns c = is_done c.loop.all.items c.args.count c.loop.counter c.loop.rest.now (many_at c.args.count c.args.bytes.now) c.loop-test.false c.loop.invariant
