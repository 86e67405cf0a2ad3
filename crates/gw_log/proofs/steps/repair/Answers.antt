use Rattle.gw_log.proofs.Moments.{weaker, joined}
use Rattle.gw_log.proofs.Crash.{cut_keeps, done_alone, done_shut}
use Rattle.gw_log.proofs.Sound.{moved, repair_alone, repair_shut, repaired_so}
use Rattle.gw_log.proofs.steps.repair.Goals as goal

pub returns-in_err-cut_synced-clause-any_moment : goal.returns-in_err-cut_synced-clause-any_moment
returns-in_err-cut_synced-clause-any_moment g c = λ records only up.
    weaker _ _ _ _ _ _ (λ f after. moved _ _ _ f _ _ only (cut_keeps _ _ _ _ records up) after) c.cut_synced.ensures.any_moment

pub returns-in_err-write_synced-clause-any_moment : goal.returns-in_err-write_synced-clause-any_moment
returns-in_err-write_synced-clause-any_moment g c = λ records only up.
    let first = weaker _ _ _ _ _ _ (λ f after. moved _ _ _ f _ _ only (cut_keeps _ _ _ _ records up) after) c.cut_synced.ensures.any_moment in
    let cut = c.in_ok-cut_synced.ensures in
    joined _ _ _ _ _ _ first (weaker _ _ _ _ _ _
    (λ f after. repair_alone _ _ _ _ _ _ _ records _ only up c.cut_synced.ensures.crash cut.durable cut.cut f c.if-end.true after)
    c.write_synced.ensures.any_moment)

pub returns-then-end-clause-any_moment : goal.returns-then-end-clause-any_moment
returns-then-end-clause-any_moment g c = λ records only up.
    let first = weaker _ _ _ _ _ _ (λ f after. moved _ _ _ f _ _ only (cut_keeps _ _ _ _ records up) after) c.cut_synced.ensures.any_moment in
    let cut = c.in_ok-cut_synced.ensures in
    joined _ _ _ _ _ _ first (weaker _ _ _ _ _ _
    (λ f after. repair_alone _ _ _ _ _ _ _ records _ only up c.cut_synced.ensures.crash cut.durable cut.cut f c.if-end.true after)
    c.write_synced.ensures.any_moment)

pub returns-then-end-clause-repaired : goal.returns-then-end-clause-repaired
returns-then-end-clause-repaired g c = λ records only up.
    let cut = c.in_ok-cut_synced.ensures in
    let wrote = c.in_ok-write_synced.ensures in
    repaired_so _ _ _ _ _ _ _ _ _ _ _ records only up c.cut_synced.ensures.crash cut.cut wrote.written c.write_synced.ensures.crash wrote.durable
    (done_alone _ _ _ _ records up c.if-end.true _ _ cut.cut.here wrote.written.here)

pub returns-in_err-write_synced-2-clause-any_moment : goal.returns-in_err-write_synced-2-clause-any_moment
returns-in_err-write_synced-2-clause-any_moment g c = λ records only up.
    let first = weaker _ _ _ _ _ _ (λ f after. moved _ _ _ f _ _ only (cut_keeps _ _ _ _ records up) after) c.cut_synced.ensures.any_moment in
    let cut = c.in_ok-cut_synced.ensures in
    joined _ _ _ _ _ _ first (weaker _ _ _ _ _ _
    (λ f after. repair_shut _ _ _ _ _ _ _ records _ only up c.cut_synced.ensures.crash cut.durable cut.cut f c.if-end.false after)
    c.write_synced-2.ensures.any_moment)

pub returns-clause-any_moment : goal.returns-clause-any_moment
returns-clause-any_moment g c = λ records only up.
    let first = weaker _ _ _ _ _ _ (λ f after. moved _ _ _ f _ _ only (cut_keeps _ _ _ _ records up) after) c.cut_synced.ensures.any_moment in
    let cut = c.in_ok-cut_synced.ensures in
    joined _ _ _ _ _ _ first (weaker _ _ _ _ _ _
    (λ f after. repair_shut _ _ _ _ _ _ _ records _ only up c.cut_synced.ensures.crash cut.durable cut.cut f c.if-end.false after)
    c.write_synced-2.ensures.any_moment)

pub returns-clause-repaired : goal.returns-clause-repaired
returns-clause-repaired g c = λ records only up.
    let cut = c.in_ok-cut_synced.ensures in
    let wrote = c.in_ok-write_synced-2.ensures in
    repaired_so _ _ _ _ _ _ _ _ _ _ _ records only up c.cut_synced.ensures.crash cut.cut wrote.written c.write_synced-2.ensures.crash wrote.durable
    (done_shut _ _ _ _ records up c.if-end.false _ _ cut.cut.here wrote.written.here)
