use Rattle.std.proofs.Common.{◌≡◌, ◌<◌, ◌+◌, length, sym, ◌∙◌, subst, ap, arith, map, take, [], ◌∷◌, ◌++◌, Some}
use Rattle.std.specs.List.{slice_get}
use Rattle.std.specs.Option.{is_some}
use Rattle.std.specs.Prelude.{nat_lt}
use Rattle.gw_plan.specs.Held.{PlanHeld}
use Rattle.gw_gateway.proofs.Routing.{AreFirst, first_all, first_more, goes_by, is_receiver, item_at, no_less, take_one}
use Rattle.gw_gateway.proofs.judge.receivers_of.Goals as goal

pub unreachable-requires : goal.unreachable-requires
unreachable-requires g c =
    let less : c.receiver.result < length c.args.conforming.now.plan.receivers =
    is_receiver c.args.conforming.now c.route-route.result.now c.loop-leg.leg c.receiver.result c.receivers-receivers.ensures.within c.route-route.ensures.route c.receiver.ensures in
    let long : length c.numbers-numbers.result.now ≡ length c.args.conforming.now.plan.receivers =
    ap length c.numbers-numbers.ensures.numbers ∙ c.numbers-numbers.ensures.each ∙ sym (ap (λ (p : PlanHeld). length p.receivers) c.requires.plan) in
    let none = subst (λ o. is_some o ≡ nat_lt c.receiver.result (length c.numbers-numbers.result.now)) c.in_default.is (c.get.ensures.lookup.0) in
    no_less c.receiver.result (length c.numbers-numbers.result.now) none (omega (arith, less, long))

pub loop-leg-preserved : goal.loop-leg-preserved
loop-leg-preserved g c =
    let there : slice_get c.numbers-numbers.result.now c.receiver.result ≡ Some c.in-Some.number.now =
    item_at c.numbers-numbers.result.now c.receiver.result c.in-Some.number c.in-Some.ensures.lookup in
    subst (λ ns. AreFirst c.numbers-numbers.result.now (take (c.loop-leg.leg + 1) (map (λ x. x.0) c.route-route.result.now.legs)) ns) (sym c.in_ok-push.ensures.items)
    (subst (λ ls. AreFirst c.numbers-numbers.result.now ls (c.loop-leg.to.items ++ c.in-Some.number.now ∷ []))
    (sym (take_one c.loop-leg.leg (map (λ x. x.0) c.route-route.result.now.legs) c.receiver.result c.receiver.ensures))
    (first_more c.numbers-numbers.result.now (take c.loop-leg.leg (map (λ x. x.0) c.route-route.result.now.legs)) c.loop-leg.to.items c.receiver.result c.in-Some.number.now
    c.loop-leg.invariant there))

pub returns : goal.returns
returns g c =
    let all : c.loop-leg.leg ≡ length c.route-route.result.now.legs = omega arith in
    goes_by c.args.under.now c.args.conforming.now c.route-route.result.now c.loop-leg.to.items c.requires.plan c.route-route.ensures.route c.route-route.ensures.plan
    c.route-route.ensures.message c.route-route.ensures.conforms
    (subst (λ ns. AreFirst ns (map (λ x. x.0) c.route-route.result.now.legs) c.loop-leg.to.items) c.numbers-numbers.ensures.numbers
    (first_all c.numbers-numbers.result.now c.route-route.result.now.legs c.loop-leg.leg c.loop-leg.to.items all c.loop-leg.invariant))
