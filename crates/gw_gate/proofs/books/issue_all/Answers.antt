use Rattle.std.proofs.Common.{◌++◌, ◌∷◌, [], ◌∙◌, ap, sym, arith, append_assoc, map, take}
use Rattle.std.proofs.lemmas.List.{map-append}
use Rattle.gw_gate.specs.Seen.{conforming_seen}
use Rattle.gw_gate.specs.Journal.{pair}
use Rattle.gw_gate.specs.Values.{pair_seen}
use Rattle.gw_gate.proofs.Releasing.{take_next}
use Rattle.gw_gate.proofs.books.issue_all.Goals as goal

pub loop-place-preserved : goal.loop-place-preserved
loop-place-preserved c =
    let old = map pair_seen c.args.queue.now.items in
    let to = (conforming_seen c.args.conforming.now).receivers in
    let k = c.loop-place.place in
    let r = c.receiver_at-receiver.result in
    let next = take_next to k r c.receiver_at-receiver.ensures in
    let l = next.0 in
    record {
      pairs =
          ap (map pair_seen) c.push_back_reserved.ensures.items ∙ map-append pair_seen c.loop-place.queue.items _ ∙ ap (λ l. l ++ pair c.args.n r ∷ []) c.loop-place.invariant.pairs
          ∙ append_assoc old (map (pair c.args.n) (take k to)) (pair c.args.n r ∷ [])
          ∙ ap (λ l. old ++ l) (sym (ap (map (pair c.args.n)) next.1 ∙ map-append (pair c.args.n) (take k to) (r ∷ [])));
      room = omega (arith, c.push_back_reserved.ensures.len, c.push_back_reserved.ensures.capacity, c.loop-place.invariant.room);
    }
