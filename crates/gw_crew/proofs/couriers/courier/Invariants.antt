use Rattle.std.proofs.Common.{◌≡◌, ◌-◌, ◌^◌, false, length}
use Rattle.gw_crew.specs.Carries.{Progress}
use Rattle.gw_crew.specs.Streams.{spot}
use Rattle.gw_crew.proofs.couriers.courier.Given as goal

abbrev pub invariant-rounds : goal.invariant-rounds
invariant-rounds g l = record {
  reads : g.R.Source.has_failed l.reader ≡ false;
  writes : g.W.Sink.has_failed l.writer ≡ false;
  progress : Progress l.receiver (spot g.R.Source l.fn.reader) (spot g.R.Source l.reader)
      (g.W.Sink.contents l.fn.writer) (g.W.Sink.contents l.writer) l.decoder (g.D.Door.noted l.fn.door) (g.D.Door.noted l.door) l.counts;
}

abbrev pub decreases-rounds : goal.decreases-rounds
decreases-rounds g l = 2 ^ 64 - length (g.D.Door.noted l.door)
