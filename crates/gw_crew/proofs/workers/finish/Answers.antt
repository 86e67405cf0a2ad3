use Rattle.std.proofs.Common.{◌∙◌, None, sym, append-nil}
use Rattle.std.proofs.lemmas.Bool.{not-false, not-true}
use Rattle.gw_crew.specs.own.Turns.{Finishes, is_stopped}
use Rattle.gw_crew.proofs.Working.{adds}
use Rattle.gw_crew.proofs.workers.finish.Goals as goal

pub returns-then-not-pause-clause-finished : goal.returns-then-not-pause-clause-finished
returns-then-not-pause-clause-finished g c =
    adds (Finishes _ _ None) _ _ _ _ _ (not-false _ (sym c.pause.ensures ∙ c.if-not-pause.true)) is_stopped (sym (append-nil _))

pub returns-clause-finished : goal.returns-clause-finished
returns-clause-finished g c = rw (not-true _ (sym c.pause.ensures ∙ c.if-not-pause.false)) c.put.ensures.put
