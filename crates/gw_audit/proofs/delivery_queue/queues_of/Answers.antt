use Rattle.std.proofs.Common.{rules, ◌≡◌, [], length, sym, subst, arith}
use Rattle.gw_gate.specs.Entries.{entry_seen, entries_seen}
use Rattle.gw_gate.proofs.Entering.{as_long}
use Rattle.gw_audit.specs.Owing.{gives_none}
use Rattle.gw_audit.specs.Turns.{TurnsTo}
use Rattle.gw_audit.specs.own.Queues.{queue_at}
use Rattle.gw_audit.proofs.Dues.{Owed, may_enter, owed_next, owed_none, turns_all}
use Rattle.gw_audit.proofs.Prefixes.{entry_next}
use Rattle.gw_audit.proofs.delivery_queue.queues_of.Goals as goal

pub loop-place-init : goal.loop-place-init
loop-place-init c = λ r.
    let none : c.new-queues.result.items ≡ [] = search rules in
    subst (λ l. Owed (entries_seen c.args.entries.now) 0 r (queue_at l r)) (sym none) (owed_none (entries_seen c.args.entries.now) c.requires r)

pub advance_all-requires : goal.advance_all-requires
advance_all-requires c = λ r.
    let e = c.index-entries-place.result in
    may_enter (entries_seen c.args.entries.now) c.requires c.loop-place.place (entry_seen e)
    (entry_next c.args.entries.now c.loop-place.place e c.loop-place-test.true c.index-entries-place.is) r _ (c.loop-place.invariant r)

pub loop-place-preserved : goal.loop-place-preserved
loop-place-preserved c = λ r.
    let e = c.index-entries-place.result in
    owed_next (entries_seen c.args.entries.now) c.requires c.loop-place.place (entry_seen e)
    (entry_next c.args.entries.now c.loop-place.place e c.loop-place-test.true c.index-entries-place.is) r _ _ (c.in_ok-advance_all.ensures r)
    (c.loop-place.invariant r)

pub returns : goal.returns
returns c = λ r.
    let h = entries_seen c.args.entries.now in
    let ats = (queue_at c.loop-place.queues.items r).turns in
    let all : c.loop-place.place ≡ length h = (let a = c.loop-place-test.false in let b = c.loop-place.auto.place-end in
    omega (arith, a, b, as_long c.args.entries.now)) in
    turns_all h r ats (subst (λ n. TurnsTo (gives_none h r) n ats) all (c.loop-place.invariant r).turns)
