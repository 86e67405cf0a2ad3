use Rattle.std.proofs.Common.{refl}
use Rattle.std.specs.Arc.{arc_value}
use Rattle.gw_session.proofs.Judging.{admitted_so, routes_nowhere, breaks_so}
use Rattle.gw_session.proofs.arrival.judge.Goals as goal

pub returns-in-Ok : goal.returns-in-Ok
returns-in-Ok c =
    let spells = rw c.deref.ensures at c.is_spelled.ensures in
    admitted_so (arc_value c.args.current.now.plan) _ _ (arc_value c.in-Ok.conforming) spells c.in-Ok.ensures.admitted

pub returns-in-Err-Route : goal.returns-in-Err-Route
returns-in-Err-Route c =
    let spells = rw c.deref.ensures at c.is_spelled.ensures in
    let refused = rw c.in-Err-Route.field-0-is at c.in-Err-Route.ensures.refused in
    (routes_nowhere (arc_value c.args.current.now.plan) _ _ spells refused.0, refl)

pub returns-in-Err-Breaks : goal.returns-in-Err-Breaks
returns-in-Err-Breaks c =
    let spells = rw c.deref.ensures at c.is_spelled.ensures in
    let refused = rw c.in-Err-Breaks.field-0-is at c.in-Err-Breaks.ensures.refused in
    (breaks_so (arc_value c.args.current.now.plan) _ _ spells refused.0, c.code.ensures)
