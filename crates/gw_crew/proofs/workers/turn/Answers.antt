use Rattle.std.proofs.Common.{◌∙◌, [], sym, append-nil}
use Rattle.gw_crew.specs.Works.{empty}
use Rattle.gw_crew.proofs.workers.turn.Goals as goal

pub returns-in-Err-clause-err : goal.returns-in-Err-clause-err
returns-in-Err-clause-err g c = record { more = []; holds = empty; noted = c.in-Err.ensures.err ∙ sym (append-nil _) }
