use Rattle.gw_log.proofs.Losing.{counted_step}
use Rattle.gw_log.proofs.writing.count_nonzero.Goals as goal

pub loop-byte-preserved : goal.loop-byte-preserved
loop-byte-preserved c =
    let step = counted_step c.args.bytes.now _ _ _ _ c.loop-byte-test.true c.loop-byte.invariant.counted c.loop-byte.invariant.few c.from-count.ensures in
    record { counted = step.0; few = step.1 }
