use Rattle.std.proofs.Common.{◌<◌, arith}
use Rattle.gw_gate.specs.Seen.{conforming_seen}
use Rattle.gw_gate.specs.own.Desks.{desk_at}
use Rattle.gw_gate.proofs.Windows.{at_places}
use Rattle.gw_gate.proofs.desks.make_room.Goals as goal

pub returns-clause-ok : goal.returns-clause-ok
returns-clause-ok c r goes =
    at_places (λ q. 0 < (desk_at c.loop-place.desks.items q).room) (conforming_seen c.args.conforming.now).receivers
    (λ k q lt at. c.loop-place.invariant.room k q (omega (arith, c.receiver_count-place-end.ensures)) at) r goes
