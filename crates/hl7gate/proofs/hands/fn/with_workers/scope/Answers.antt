use denote.Param.{param}
use Rattle.hl7gate.proofs.Crossing.{Service-shared, number-send, sent-two}
use Rattle.hl7gate.proofs.hands.fn.with_workers.scope.Goals as goal

pub spawn-requires-send-F : goal.spawn-requires-send-F
spawn-requires-send-F g c κs within = sent-two _ _ _ _ (Service-shared _ _ _ (param 0 g.row.L) _ _ c.requires.1) number-send
