use Rattle.std.proofs.Common.{◌≡◌, ℕ, ◌<◌, Some, slice_get}
use Rattle.gw_gate.specs.Seen.{conforming_seen}
use Rattle.gw_gate.specs.own.Desks.{desk_at, AreRoomier}
use Rattle.gw_gate.proofs.desks.make_room.Given as goal

abbrev pub invariant-loop-place : goal.invariant-loop-place
invariant-loop-place l = record {
  roomier : AreRoomier l.initial.desks.items l.desks.items;
  room : (k r : ℕ) → k < l.place → slice_get (conforming_seen l.conforming).receivers k ≡ Some r → 0 < (desk_at l.desks.items r).room;
}
