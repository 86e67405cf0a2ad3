use Rattle.std.proofs.Common.{◌≡◌}
use Rattle.gw_gateway.proofs.judge.AtLog.note_due.Given as goal

abbrev pub invariant-loop-receiver : goal.invariant-loop-receiver
invariant-loop-receiver g l = l.self.waiting ≡ l.fn.self.waiting
