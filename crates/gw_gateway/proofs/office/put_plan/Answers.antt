use Rattle.std.proofs.Common.{◌∙◌, ap}
use Rattle.std.specs.Arc.{arc_value}
use Rattle.gw_plan.specs.Held.{PlanHeld}
use Rattle.gw_gateway.proofs.Naming.{looked_stands}
use Rattle.gw_gateway.proofs.office.put_plan.Goals as goal

pub new-requires : goal.new-requires
new-requires g c = record {
  stands = looked_stands g.J.Naming.before c.args.ledger.now c.plan.new.self c.args.time c.text.result.now (arc_value c.args.plan) (arc_value c.args.numbers).items
      c.in_ok-ticket.ticket c.in-Some.look (c.text.ensures ∙ ap (λ (p : PlanHeld). p.text) c.deref.ensures) c.in_ok-ticket.ensures.ok c.requires.named c.requires.each
      c.in-Some.ensures.look.0 c.in-Some.ensures.look.1;
}
