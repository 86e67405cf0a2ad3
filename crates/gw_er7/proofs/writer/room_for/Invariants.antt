use Rattle.std.proofs.Common.{◌≡◌, ◌<◌, ◌+◌, ◌-◌, ◌^◌, min, drop}
use Rattle.std.specs.List.{sum_by}
use Rattle.gw_er7.proofs.Stored.{line_room}
use Rattle.gw_er7.proofs.writer.room_for.Given as goal

abbrev pub invariant-loop-i : goal.invariant-loop-i
invariant-loop-i l = record {
  room : min (l.room + sum_by line_room (drop l.i l.message)) (2 ^ 64 - 1) ≡ min (sum_by line_room l.message) (2 ^ 64 - 1);
  fits : l.room < 2 ^ 64;
}
