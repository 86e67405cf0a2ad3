use Rattle.std.proofs.Common.{◌≡◌, ℕ, take}
use Rattle.gw_gate.specs.Seen.{conforming_seen}
use Rattle.gw_gate.specs.own.Desks.{desk_at}
use Rattle.gw_gate.proofs.Spreading.{due_among}
use Rattle.gw_gate.proofs.desks.make_due.Given as goal

abbrev pub invariant-loop-place : goal.invariant-loop-place
invariant-loop-place l = (q : ℕ) → desk_at l.desks.items q ≡ due_among (take l.place (conforming_seen l.conforming).receivers) l.n q (desk_at l.initial.desks.items q)
