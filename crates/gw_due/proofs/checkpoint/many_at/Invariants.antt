use Rattle.std.proofs.Common.{◌≡◌, ◌-◌}
use Rattle.gw_due.specs.own.StateReading.{many_at}
use Rattle.gw_due.proofs.StateForms.{with_front}
use Rattle.gw_due.proofs.checkpoint.many_at.Given as goal

abbrev pub invariant-loop : goal.invariant-loop
invariant-loop l = with_front l.all.items (many_at (l.count - l.counter) l.rest) ≡ many_at l.count l.bytes
