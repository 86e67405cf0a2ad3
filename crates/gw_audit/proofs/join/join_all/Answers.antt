use Rattle.std.proofs.Common.{◌≡◌, IfErr, List, subst}
use Rattle.gw_gate.specs.Journal.{Journal}
use Rattle.gw_stream.specs.declared.fault.RunFault.TheVariants as run
use Rattle.gw_run.specs.Passes.{PassSeen}
use Rattle.gw_audit.specs.Settled.{AreSettled}
use Rattle.gw_audit.proofs.join.join_all.Goals as goal

pub returns-clause-unsettled : goal.returns-clause-unsettled
returns-clause-unsettled g c =
    subst (λ (k : List Journal). IfErr c.settled-answer.result (λ f. f ≡ run.Unsettled → AreSettled k c.args.counted.now c.args.passes.items → ⊥))
    c.deref-2.ensures.value
    (subst (λ (l : List PassSeen). IfErr c.settled-answer.result (λ f. f ≡ run.Unsettled → AreSettled c.deref-2.result.now c.args.counted.now l → ⊥))
    c.deref.ensures.value c.settled-answer.ensures.unsettled)
