use Rattle.std.specs.Prelude.{⊤}
use Rattle.gw_delivery.proofs.made.named.Given as goal

abbrev pub invariant-loop-at : goal.invariant-loop-at
invariant-loop-at l = ⊤
