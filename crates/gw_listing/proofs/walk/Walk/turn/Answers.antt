use Rattle.std.proofs.Common.{rules, ◌≡◌, ◌+◌, true, ◌∙◌}
use Rattle.gw_listing.proofs.Given.{turn_listed}
use Rattle.gw_listing.proofs.walk.Walk.turn.Goals as goal

pub returns-clause-listed : goal.returns-clause-listed
returns-clause-listed g c =
    let next : c.in-Some.number ≡ c.self.inside.number + 1 = search rules in
    let ended : c.self.inside.is_ended ≡ true = search rules in
    rw (← c.self.view_is) (λ honest before listed.
    turn_listed g.D.Disk.seen _ c.in_ok-reader.reader c.in_ok-reader.upto c.in-Some.number _ before listed ended
    (c.in-Ok.ensures.gate (c.in_ok-reader.ensures.back honest)) (c.in_ok-reader.ensures.read honest) c.in_ok-reader.ensures.opened
    (c.in_ok-reader.ensures.seen ∙ c.in-Ok.ensures.seen) c.in_ok-reader.ensures.number next (c.in_ok-reader.ensures.upto honest))
