use Rattle.std.proofs.Common.{◌≡◌, ◌∙◌, ◌<◌, ap, refl, sym, slice_get, length, Some, arith}
use Rattle.std.specs.Option.{option_map}
use Rattle.std.proofs.lemmas.Bool.Decides.{Decides-eqb, nat_tests}
use Rattle.std.proofs.lemmas.Option.{slice_get-map, slice_get_read}
use Rattle.std.specs.Cmp.Lexicographic.{pointwise_decides}
use Rattle.gw_plan.specs.Seen.{receiver_value}
use Rattle.gw_delivery.proofs.made.named.Goals as goal

pub returns-then-eq : goal.returns-then-eq
returns-then-eq c =
    let all = c.args.receivers.now in
    let r = c.index-receivers-at.result in
    let test = c.loop-at-test.true in
    let within : c.loop-at.at < length all = grind (arith, nat_tests) in
    let here : slice_get all c.loop-at.at ≡ Some r = slice_get_read all (length all) c.loop-at.at r refl within c.index-receivers-at.is in
    let name : c.as_slice.result.now ≡ c.args.name.now = (pointwise_decides Decides-eqb c.as_slice.result.now c.args.name.now).0 (sym c.eq.ensures ∙ c.if-eq.true) in
    record {
      receiver = receiver_value r;
      there = slice_get-map receiver_value all c.loop-at.at ∙ ap (option_map receiver_value) here;
      name_is = ap (λ r. (receiver_value r).name) c.index-receivers-at.is ∙ sym c.as_slice.ensures.value ∙ name;
    }
