use Rattle.std.proofs.Common.{◌≡◌, sym, ap, subst, length, List, Option, Bool, true, false, []}
use Rattle.std.specs.Prelude.{IfOk}
use Rattle.std.specs.Option.{option_map}
use Rattle.gw_plan.specs.Senders.{Senders}
use Rattle.gw_plan.specs.Index.{Key, Joins, Indexes, said, slots_from, is_slot}
use Rattle.gw_plan.proofs.Adding.{rest_added, all_added, shut_out, looked_up, found_still}
use Rattle.gw_plan.proofs.index.Index.push.Goals as goal

pub returns-then-is_some : goal.returns-then-is_some
returns-then-is_some c keys x is =
    let z = found_still _ _ c.in_ok-pair.pair c.args.code.now c.args.event.now c.in_ok-pair.ensures keys x in
    subst (λ (s : Option Senders). Joins keys (record { code = c.args.code.now; event = c.args.event.now; senders = s }) c.pair.new.self false) (ap (option_map said) (sym c.in-Some.is))
    (shut_out c.pair.new.self c.pair.new.self c.in_ok-pair.pair c.args.code.now c.args.event.now keys _
    (looked_up _ (slots_from 0 keys) c.at.result _ _ (c.at.ensures (slots_from 0 keys) c.args.code.now c.args.event.now z c.in_ok-pair.ensures.is_pair) c.is_some.ensures c.if-is_some.true))

pub returns-in-None : goal.returns-in-None
returns-in-None c =
    subst
    (λ (s : Option Senders). IfOk c.add.result (λ (added : Bool). (keys : List Key) → Indexes c.args.self.now keys → c.args.number ≡ length keys → Joins keys (record { code = c.args.code.now; event = c.args.event.now; senders = s }) c.add.new.self added))
    (ap (option_map said) (sym c.in-None.is))
    (rest_added _ _ _ c.in_ok-pair.pair c.args.code.now c.args.event.now c.in_ok-pair.ensures c.args.number c.add.result c.add.ensures.beside c.add.ensures.adds)

pub returns-else-is_some : goal.returns-else-is_some
returns-else-is_some c =
    let none = λ (keys : List Key) (x : Indexes c.args.self.now keys).
    looked_up (is_slot c.args.code.now c.args.event.now 0 []) (slots_from 0 keys) c.at.result c.is_some.result false
    (c.at.ensures (slots_from 0 keys) c.args.code.now c.args.event.now (found_still _ _ c.in_ok-pair.pair c.args.code.now c.args.event.now c.in_ok-pair.ensures keys x) c.in_ok-pair.ensures.is_pair) c.is_some.ensures
    c.if-is_some.false in
    subst
    (λ (s : Option Senders). IfOk c.add_all.result (λ (added : Bool). (keys : List Key) → Indexes c.args.self.now keys → c.args.number ≡ length keys → Joins keys (record { code = c.args.code.now; event = c.args.event.now; senders = s }) c.add_all.new.self added))
    (ap (option_map said) (sym c.in-Some.is))
    (all_added _ _ _ c.in_ok-pair.pair c.args.code.now c.args.event.now c.in_ok-pair.ensures c.args.number (said c.in-Some.senders) c.add_all.result c.add_all.ensures.beside none c.add_all.ensures.adds)
