use Rattle.std.proofs.Common.{subst}
use Rattle.std.specs.Arc.{arc_value}
use mathlib.Core.List.{IsPrefix}
use Rattle.gw_gateway.proofs.Naming.{repeated}
use Rattle.gw_gateway.proofs.office.Office.repeat_plan.Goals as goal

pub put_plan-requires-clause-named : goal.put_plan-requires-clause-named
put_plan-requires-clause-named g c =
    let on = subst (λ h. IsPrefix h c.front-2.result.now) c.front.ensures.seen c.if-not-begins.ensures.begins in
    repeated g.J.Naming.before c.args.self.now.current (arc_value c.in-Ok.plan) (arc_value c.in-Ok.numbers).items c.args.self.now.ledger.desk.history
    c.front.ensures.stands c.in-Ok.ensures.plan c.in-Ok.ensures.numbers
    (subst (λ h. IsPrefix c.args.self.now.current.history h) c.front-2.ensures on)
