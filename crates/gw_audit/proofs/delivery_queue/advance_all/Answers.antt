use Rattle.std.proofs.Common.{arith, refl, sym, subst, ◌∙◌}
use Rattle.std.proofs.lemmas.List.{take_all}
use Rattle.gw_gate.specs.Entries.{entry_seen}
use Rattle.gw_audit.specs.Owing.{MayEnter, concerned}
use Rattle.gw_audit.specs.own.Queues.{MovedIf, QueueSeen, queue_at}
use Rattle.gw_audit.proofs.Dues.{moved_more, once, unmoved}
use Rattle.gw_audit.proofs.delivery_queue.advance_all.Goals as goal

pub loop-place-init : goal.loop-place-init
loop-place-init c = λ q. refl

pub advance_at-requires-clause-may : goal.advance_at-requires-clause-may
advance_at-requires-clause-may c =
    let e = entry_seen c.args.entry.now in
    let r = c.concerned_at-receiver.result in
    let same = c.widen.ensures.same r
    ∙ unmoved (concerned e) c.loop-place.place r c.concerned_at-receiver.ensures e c.args.at _ _ (once e c.concerns_once.ensures) (c.loop-place.invariant r) in
    subst (λ (q : QueueSeen). MayEnter e q.desk) (sym same) (c.requires r)

pub loop-place-preserved : goal.loop-place-preserved
loop-place-preserved c =
    moved_more (concerned (entry_seen c.args.entry.now)) c.loop-place.place c.concerned_at-receiver.result c.concerned_at-receiver.ensures
    (entry_seen c.args.entry.now)
    c.args.at c.args.queues.now.items c.loop-place.queues.items c.widen.new.queues.items c.advance_at.new.queues.items
    (once _ c.concerns_once.ensures) c.loop-place.invariant
    c.widen.ensures.same c.in_ok-advance_at.ensures.this c.advance_at.ensures.others

pub returns : goal.returns
returns c = λ r.
    let all = take_all c.loop-place.place (concerned (entry_seen c.args.entry.now))
    (omega (arith, c.concerned_count-place-end.ensures, c.loop-place-test.false)) in
    subst (λ to. MovedIf to r (entry_seen c.args.entry.now) c.args.at (queue_at c.args.queues.now.items r) (queue_at c.loop-place.queues.items r)) all
    (c.loop-place.invariant r)
