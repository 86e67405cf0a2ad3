use Rattle.std.proofs.Common.{◌≡◌, refl, arith}
use Rattle.gw_session.proofs.Arriving.{tries_none, if_gives_up}
use Rattle.gw_session.proofs.arrival.arrive_in_time.Goals as goal

pub tries-init : goal.tries-init
tries-init g c = record { same = refl; tries = tries_none _ _ }

pub returns-clause-settled : goal.returns-clause-settled
returns-clause-settled g c =
    let four : c.tries._try ≡ 4 = omega arith in if_gives_up _ c.refuse.result _ _ _ _ four c.tries.invariant.tries c.refuse.ensures.refused
