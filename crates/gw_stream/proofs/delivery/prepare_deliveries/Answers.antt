use Rattle.std.proofs.Common.{◌<◌, rules, arith, sym, subst, ◌∙◌, length, IsTrue}
use Rattle.std.specs.Arc.{arc_value}
use Rattle.gw_plan.specs.Admitted.{IsOf}
use Rattle.gw_plan.specs.Held.{route_value}
use Rattle.gw_mllp.proofs.Steps.{AllByRecursion-push}
use Rattle.gw_stream.specs.declared.delivery.Delivery as program
use Rattle.gw_stream.proofs.Preparing.{are_prepared, is_of, prepared_for, prepared_next}
use Rattle.gw_stream.proofs.delivery.prepare_deliveries.Goals as goal

pub prove-unreachable-requires : goal.prove-unreachable-requires
prove-unreachable-requires c =
    let is = rw c.deref.ensures at c.route-route.ensures.route in
    let of = is_of (arc_value c.args.conforming.now) c.route-route.result.now c.legs.i c.receiver-receiver.result is c.receiver-receiver.ensures in
    let goes : IsTrue c.goes_to.result = c.goes_to.ensures.goes.1 (subst (λ x. IsOf x c.receiver-receiver.result) (sym c.deref-in-legs.ensures) of) in
    let both = sym c.if-prove.true ∙ goes in
    search rules

pub legs-preserved : goal.legs-preserved
legs-preserved c =
    let is = rw c.deref.ensures at c.route-route.ensures.route in
    let one = c.in_ok-delivery.ensures (route_value c.route-route.result.now) is in
    let stands = c.goes_to.ensures.stands (search rules) in
    let within = rw c.deref-in-legs.ensures at stands in
    let to = prepared_for _ _ _ _ one in
    let there : c.in_ok-delivery.delivery.receiver < length (arc_value c.args.conforming.now).plan.receivers =
    subst (λ n. n < length (arc_value c.args.conforming.now).plan.receivers) (sym to) within in
    record {
      made = rw c.in_ok-push.ensures.items (prepared_next _ _ _ _ _ _ c.legs.invariant.made c.receiver-receiver.ensures one);
      within = rw c.in_ok-push.ensures.items (AllByRecursion-push (λ (d : program.Delivery). d.receiver < _) _ _ c.legs.invariant.within there);
    }

pub returns-clause-made : goal.returns-clause-made
returns-clause-made c =
    let is = rw c.deref.ensures at c.route-route.ensures.route in
    let len = c.len-i-end.ensures in
    let at = c.legs-test.false in
    are_prepared (arc_value c.args.conforming.now) c.route-route.result.now c.legs.i _ is (omega arith) c.legs.invariant.made
