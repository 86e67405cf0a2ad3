use Rattle.std.proofs.Common.{◌+◌, ◌-◌, length}
use Rattle.gw_gate.specs.own.Desks.{AreRoomier}
use Rattle.gw_gate.proofs.desks.widen.Given as goal

abbrev pub invariant-loop-alloc : goal.invariant-loop-alloc
invariant-loop-alloc l = AreRoomier l.initial.desks.items l.desks.items

abbrev pub decreases-loop-alloc : goal.decreases-loop-alloc
decreases-loop-alloc l = l.receiver + 1 - length l.desks.items
