use Rattle.std.proofs.Common.{◌-◌}
use Rattle.gw_due.specs.own.Reading.{numbers}
use Rattle.gw_due.proofs.Numbers.{AreRead}
use Rattle.gw_due.proofs.reading.numbers.Given as goal

abbrev pub invariant-loop : goal.invariant-loop
invariant-loop l = AreRead l.to.items (l.count - l.counter) l.rest (numbers l.count l.bytes)
