use Rattle.std.proofs.Common.{◌≡◌}
use Rattle.gw_gateway.specs.Waiting.{GoesOn}
use Rattle.gw_gateway.proofs.judge.AtLog.arrive_in_time.Given as goal

abbrev pub invariant-tries : goal.invariant-tries
invariant-tries g l = record {
  same : l.message ≡ l.fn.message;
  on : GoesOn l.fn.self.waiting l.self.waiting;
}
