use Rattle.std.proofs.Common.{◌≡◌, map, take, length}
use Rattle.gw_plan.specs.Seen.{receiver_value}
use Rattle.gw_gateway.specs.Plans.{AreNamed}
use Rattle.gw_gateway.proofs.office.name_all.Given as goal

abbrev pub invariant-loop-receiver : goal.invariant-loop-receiver
invariant-loop-receiver g l = record {
  named : AreNamed g.J.Naming.before (map receiver_value (take l.receiver-index l.receivers)) l.numbers.items l.ledger.desk.history;
  each : length l.numbers.items ≡ l.receiver-index;
}
