use Rattle.gw_log.proofs.Moments.{weaker}
use Rattle.gw_log.proofs.Sound.{is_gate, settled}
use Rattle.gw_log.proofs.steps.settle.Goals as goal

pub returns-in_err-write_synced-clause-any_moment : goal.returns-in_err-write_synced-clause-any_moment
returns-in_err-write_synced-clause-any_moment g c = λ reach these last st some.
    weaker _ _ _ _ _ _ (λ f after. is_gate _ _ _ _ _ _ these last st some f after) c.write_synced.ensures.any_moment

pub returns-clause-any_moment : goal.returns-clause-any_moment
returns-clause-any_moment g c = λ reach these last st some.
    weaker _ _ _ _ _ _ (λ f after. is_gate _ _ _ _ _ _ these last st some f after) c.write_synced.ensures.any_moment

pub returns-clause-ok : goal.returns-clause-ok
returns-clause-ok g c = λ reach these last st some.
    let wrote = c.in_ok-write_synced.ensures in
    settled _ _ _ _ _ reach these last st some _ wrote.written c.write_synced.ensures.crash wrote.durable
