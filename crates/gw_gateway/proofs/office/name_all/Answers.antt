use Rattle.std.proofs.Common.{◌+◌, ◌∙◌, ap, length, map, take, sym, subst}
use Rattle.gw_plan.specs.Seen.{receiver_value}
use Rattle.gw_gateway.specs.Plans.{AreNamed}
use Rattle.gw_gateway.proofs.Naming.{one_longer, receivers_more}
use Rattle.gw_gateway.proofs.office.name_all.Goals as goal

pub loop-receiver-preserved : goal.loop-receiver-preserved
loop-receiver-preserved g c = record {
  named = subst (λ ns. AreNamed g.J.Naming.before (map receiver_value (take (c.loop-receiver.receiver-index + 1) c.args.receivers.now)) ns c.name_one.new.ledger.desk.history)
      (sym c.in_ok-push.ensures.items)
      (receivers_more receiver_value g.J.Naming.before c.args.receivers.now c.loop-receiver.receiver-index c.receiver-item.result c.loop-receiver.numbers.items c.in_ok-number.number
      c.loop-receiver.ledger.desk.history c.name_one.new.ledger.desk.history c.loop-receiver-test.true c.receiver-item.is c.in_ok-number.ensures.later
      c.loop-receiver.invariant.named c.in_ok-number.ensures.named);
  each = ap length c.in_ok-push.ensures.items ∙ one_longer c.loop-receiver.numbers.items c.in_ok-number.number c.loop-receiver.receiver-index c.loop-receiver.invariant.each;
}
