use denote.Param.{param}
use Rattle.hl7gate.proofs.Crossing.{Connection-send, Service-shared, sent-two}
use Rattle.hl7gate.proofs.hands.fn.take_sessions.scope.Goals as goal

pub spawn-requires-send-F : goal.spawn-requires-send-F
spawn-requires-send-F g c κs within = sent-two _ _ _ _ (Service-shared _ _ _ (param 0 g.row.L) _ _ c.requires.1) Connection-send
