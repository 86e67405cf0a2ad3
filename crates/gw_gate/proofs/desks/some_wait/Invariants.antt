use Rattle.std.proofs.Common.{ℕ, ◌<◌, ◌≤◌, length}
use Rattle.gw_gate.specs.own.Desks.{desk_at}
use Rattle.gw_gate.proofs.desks.some_wait.Given as goal

abbrev pub invariant-loop-receiver : goal.invariant-loop-receiver
invariant-loop-receiver l = (q : ℕ) → q < l.receiver → length (desk_at l.desks q).due ≤ (desk_at l.desks q).released
