use Rattle.std.proofs.Common.{◌-◌, ◌≤◌}
use Rattle.gw_log.specs.Opening.{BeginsAs, AreLinked}
use Rattle.gw_log.specs.own.Opens.{Reads}
use Rattle.gw_log.proofs.opening.linked.Given as goal

abbrev pub invariant-loop-number : goal.invariant-loop-number
invariant-loop-number g l = record {
  low : l.first ≤ l.number;
  high : l.number ≤ l.last;
  reads : Reads g.D.Disk.seen g.D.Disk.may_leave g.D.Disk.moment g.D.Disk.left_since g.D.Disk.honest l.fn.disk l.disk;
  begins : g.D.Disk.honest l.disk → BeginsAs l.id l.number l.place.first l.place.before l.place.keep (g.D.Disk.seen l.fn.disk l.number);
  opens : g.D.Disk.honest l.disk → BeginsAs l.id l.first l.start.first l.start.before l.start.keep (g.D.Disk.seen l.fn.disk l.first);
  linked : g.D.Disk.honest l.disk → AreLinked l.id (g.D.Disk.seen l.fn.disk) l.first l.number;
}

abbrev pub decreases-loop-number : goal.decreases-loop-number
decreases-loop-number g l = l.last - l.number
