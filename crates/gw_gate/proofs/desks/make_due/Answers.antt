use Rattle.std.proofs.Common.{◌<◌, All, arith, refl, sym, ap, subst, ◌∙◌}
use Rattle.std.proofs.lemmas.List.{take_all}
use Rattle.gw_gate.specs.Seen.{conforming_seen}
use Rattle.gw_gate.specs.own.Desks.{desk_at}
use Rattle.gw_gate.proofs.Spreading.{room_there, among_all, due_among, unmoved, due_more}
use Rattle.gw_gate.proofs.desks.make_due.Goals as goal

pub loop-place-init : goal.loop-place-init
loop-place-init c = λ q. refl

pub due_at-requires-clause-room : goal.due_at-requires-clause-room
due_at-requires-clause-room c =
    let to = (conforming_seen c.args.conforming.now).receivers in
    let k = c.loop-place.place in
    let r = c.receiver_at-receiver.result in
    let at = c.receiver_at-receiver.ensures in
    subst (λ s. 0 < s.room) (sym (unmoved to c.args.n k r c.args.desks.now.items c.loop-place.desks.items at c.loop-place.invariant c.goes_once.ensures)) (c.requires.room r (among_all to k r at))

pub due_at-requires-clause-within : goal.due_at-requires-clause-within
due_at-requires-clause-within c = room_there c.loop-place.desks.items c.receiver_at-receiver.result (due_at-requires-clause-room c)

pub due_at-requires-clause-above : goal.due_at-requires-clause-above
due_at-requires-clause-above c =
    let to = (conforming_seen c.args.conforming.now).receivers in
    let k = c.loop-place.place in
    let r = c.receiver_at-receiver.result in
    let at = c.receiver_at-receiver.ensures in
    subst (λ s. All (λ m. m < c.args.n) s.due) (sym (unmoved to c.args.n k r c.args.desks.now.items c.loop-place.desks.items at c.loop-place.invariant c.goes_once.ensures)) (c.requires.above r)

pub loop-place-preserved : goal.loop-place-preserved
loop-place-preserved c =
    due_more (conforming_seen c.args.conforming.now).receivers c.args.n c.loop-place.place c.receiver_at-receiver.result c.args.desks.now.items c.loop-place.desks.items c.receiver_at-receiver.ensures c.loop-place.invariant
    c.due_at.new.desks.items c.goes_once.ensures c.due_at.ensures.this c.due_at.ensures.others

pub returns : goal.returns
returns c = λ r.
    c.loop-place.invariant r
    ∙ ap (λ to. due_among to c.args.n r (desk_at c.args.desks.now.items r)) (take_all c.loop-place.place (conforming_seen c.args.conforming.now).receivers (omega (arith, c.receiver_count-place-end.ensures, c.loop-place-test.false)))
