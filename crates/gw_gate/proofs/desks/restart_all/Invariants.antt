use Rattle.std.proofs.Common.{◌≡◌, ℕ, ◌<◌, length}
use Rattle.gw_reorder.specs.State.{SameButRoom, nothing_due}
use Rattle.gw_gate.specs.own.Desks.{desk_at}
use Rattle.gw_gate.proofs.desks.restart_all.Given as goal

abbrev pub invariant-loop-receiver : goal.invariant-loop-receiver
invariant-loop-receiver l = record {
  done : (q : ℕ) → q < l.receiver → SameButRoom nothing_due (desk_at l.desks.items q);
  long : length l.desks.items ≡ length l.initial.desks.items;
}
