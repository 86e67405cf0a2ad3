use denote.Param.{param}
use Rattle.std.proofs.Crossing.{Arc-send}
use Rattle.hl7gate.proofs.Crossing.{Control-shared, Hub-shared, Pages-shared, Sender-send, Waits-send, Waits-sync, sent-one, sent-two}
use Rattle.hl7gate.proofs.gateway.command.fn.go_on.scope.Goals as goal

pub spawn-requires-send-F : goal.spawn-requires-send-F
spawn-requires-send-F g c κs within =
    sent-one _ _ _ (Hub-shared _ _ _ (param 0 g.row.J) (param 1 g.row.S) (param 2 g.row.R) g.J.Naming g.S.Storage c.requires.0 c.requires.2)

pub spawn-requires-then-is_ok-send-F : goal.spawn-requires-then-is_ok-send-F
spawn-requires-then-is_ok-send-F g c κs within =
    sent-two _ _ _ _ (Hub-shared _ _ _ (param 0 g.row.J) (param 1 g.row.S) (param 2 g.row.R) g.J.Naming g.S.Storage c.requires.0 c.requires.2) (Control-shared _ _)

pub spawn-requires-then-is_ok-2-send-F : goal.spawn-requires-then-is_ok-2-send-F
spawn-requires-then-is_ok-2-send-F g c κs within =
    sent-one _ _ _ (Hub-shared _ _ _ (param 0 g.row.J) (param 1 g.row.S) (param 2 g.row.R) g.J.Naming g.S.Storage c.requires.0 c.requires.2)

pub spawn-requires-then-is_some-send-F : goal.spawn-requires-then-is_some-send-F
spawn-requires-then-is_some-send-F g c κs within =
    sent-two _ _ _ _ (Hub-shared _ _ _ (param 0 g.row.J) (param 1 g.row.S) (param 2 g.row.R) g.J.Naming g.S.Storage c.requires.0 c.requires.2) (Pages-shared _ _)

pub spawn-requires-in-Some-next_new-send-F : goal.spawn-requires-in-Some-next_new-send-F
spawn-requires-in-Some-next_new-send-F g c κs within =
    sent-two _ _ _ _ (Hub-shared _ _ _ (param 0 g.row.J) (param 1 g.row.S) (param 2 g.row.R) g.J.Naming g.S.Storage c.requires.0 c.requires.2)
    (Arc-send _ Waits-send Waits-sync)

pub spawn-requires-in-Some-next_sender-send-F : goal.spawn-requires-in-Some-next_sender-send-F
spawn-requires-in-Some-next_sender-send-F g c κs within =
    sent-two _ _ _ _ (Hub-shared _ _ _ (param 0 g.row.J) (param 1 g.row.S) (param 2 g.row.R) g.J.Naming g.S.Storage c.requires.0 c.requires.2) Sender-send
