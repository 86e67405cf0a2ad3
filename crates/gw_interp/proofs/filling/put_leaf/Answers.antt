use Rattle.std.proofs.Common.{subst}
use Rattle.gw_maplang.specs.Seen.{now}
use Rattle.gw_resolve.specs.Resolved.{alternatives}
use Rattle.gw_resolve.specs.Seen.{at_leaf}
use Rattle.gw_interp.specs.own.Sourced.{FirstGives}
use Rattle.gw_interp.specs.own.Filling.{message_of, read_by}
use Rattle.gw_interp.proofs.Fills.{on_ok}
use Rattle.gw_interp.proofs.filling.put_leaf.Goals as goal

pub put_text-requires : goal.put_text-requires
put_text-requires c =
    let means = subst (λ o. FirstGives (read_by c.args.reading.now) (alternatives (at_leaf c.args.rows.now.tables c.args.leaf.now)) (now o)) c.in-Some.is (c.place_text.ensures (message_of c.args.reading.now.scope.now) c.requires.of) in
    record { begun = c.requires.begun; free = c.requires.free; entry = λ lt. c.requires.holds.entry c.in-Some.text.now means lt }

pub returns-in-None : goal.returns-in-None
returns-in-None c =
    absurd ((subst (λ o. FirstGives (read_by c.args.reading.now) (alternatives (at_leaf c.args.rows.now.tables c.args.leaf.now)) (now o)) c.in-None.is (c.place_text.ensures (message_of c.args.reading.now.scope.now) c.requires.of)) c.requires.holds.no_fault)

pub returns-in-Some : goal.returns-in-Some
returns-in-Some c =
    let means = subst (λ o. FirstGives (read_by c.args.reading.now) (alternatives (at_leaf c.args.rows.now.tables c.args.leaf.now)) (now o)) c.in-Some.is (c.place_text.ensures (message_of c.args.reading.now.scope.now) c.requires.of) in
    on_ok _ _ c.put_text.result (λ put. record { text = c.in-Some.text.now; means = means; put = put }) c.put_text.ensures.ok
