use Rattle.std.proofs.Common.{◌≡◌, length}
use Rattle.hl7gate.proofs.plans.paths_of.Given as goal

abbrev pub invariant-each : goal.invariant-each
invariant-each l = length l.paths.items ≡ l.receiver-index
