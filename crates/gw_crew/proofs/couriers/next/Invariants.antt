use Rattle.std.proofs.Common.{◌-◌, ◌^◌, length}
use Rattle.gw_crew.specs.own.Turns.{Adds, Waits}
use Rattle.gw_crew.proofs.couriers.next.Given as goal

abbrev pub invariant-waits : goal.invariant-waits
invariant-waits g l = record { waits : Adds (Waits l.receiver) (g.D.Door.noted l.fn.door) (g.D.Door.noted l.door) }

abbrev pub decreases-waits : goal.decreases-waits
decreases-waits g l = 2 ^ 64 - length (g.D.Door.noted l.door)
