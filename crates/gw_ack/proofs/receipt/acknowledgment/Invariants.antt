use Rattle.std.proofs.Common.{◌≡◌, drop}
use Rattle.std.specs.Prelude.{codes}
use Rattle.gw_ack.specs.Acknowledged.{first_named}
use Rattle.gw_ack.proofs.receipt.acknowledgment.Given as goal

abbrev pub invariant-loop-i : goal.invariant-loop-i
invariant-loop-i l = first_named (codes "MSA") l.message ≡ first_named (codes "MSA") (drop l.i l.message)
