use Rattle.std.proofs.Common.{◌≡◌, ◌-◌, ◌^◌, false, length}
use Rattle.gw_stream.specs.Counted.{nothing}
use Rattle.gw_crew.specs.Works.{Worked}
use Rattle.gw_crew.proofs.workers.worker.Given as goal

abbrev pub invariant-rounds : goal.invariant-rounds
invariant-rounds g l = record {
  running : g.P.Pause.has_stopped l.pause ≡ false;
  counted : l.counts ≡ record nothing { put = l.counts.put };
  worked : Worked (g.D.Door.noted l.fn.door) (g.D.Door.noted l.door) l.counts.put;
}

abbrev pub decreases-rounds : goal.decreases-rounds
decreases-rounds g l = 2 ^ 64 - length (g.D.Door.noted l.door)
