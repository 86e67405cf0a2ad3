use Rattle.gw_crew.proofs.Carrying.{denied_none}
use Rattle.gw_crew.proofs.blocks.answered.Goals as goal

pub returns-in-Ok-clause-none : goal.returns-in-Ok-clause-none
returns-in-Ok-clause-none g c =
    denied_none _ _ _ _ _ _ _ _ _ _ c.in-Ok.ensures.works c.in-Ok.ensures.next (rw c.deref.ensures.value at c.read_answer.ensures.not)
