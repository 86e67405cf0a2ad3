use Rattle.std.proofs.Common.{◌≡◌}
use Rattle.gw_crew.specs.own.Turns.{Adds}
use Rattle.gw_session.specs.Sessions.{Tries}
use Rattle.gw_session.proofs.arrival.arrive_in_time.Given as goal

abbrev pub invariant-tries : goal.invariant-tries
invariant-tries g l = record {
  same : l.message ≡ l.fn.message;
  tries : Adds (Tries l.fn.message l._try) (g.D.Door.noted l.fn.door) (g.D.Door.noted l.door);
}
