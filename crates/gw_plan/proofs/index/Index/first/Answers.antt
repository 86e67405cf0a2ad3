use Rattle.std.proofs.Common.{◌∙◌, ap₂, [], refl}
use Rattle.gw_plan.specs.Index.{slots_from, sooner, header}
use Rattle.gw_plan.proofs.Slots.{probed, by_place}
use Rattle.gw_plan.proofs.index.Index.first.Goals as goal

pub returns : goal.returns
returns c keys code event z pair =
    let rest = probed code event keys 0 0 [] _ (c.at-rest.ensures (slots_from 0 keys) code event z pair) refl in
    let one = probed code event keys _ 3 c.args.header.now.sending_application.now _ (c.at-one.ensures (slots_from 0 keys) code event z pair) c.number.ensures in
    let two = probed code event keys _ 4 c.args.header.now.sending_facility.now _ (c.at-two.ensures (slots_from 0 keys) code event z pair) c.number-2.ensures in
    let three = probed code event keys _ 5 c.args.header.now.receiving_application.now _ (c.at-three.ensures (slots_from 0 keys) code event z pair) c.number-3.ensures in
    let four = probed code event keys _ 6 c.args.header.now.receiving_facility.now _ (c.at-four.ensures (slots_from 0 keys) code event z pair) c.number-4.ensures in
    let five = probed code event keys _ 21 c.args.header.now.message_profile.now _ (c.at-five.ensures (slots_from 0 keys) code event z pair) c.number-5.ensures in
    c.sooner-5.ensures
    ∙ ap₂ sooner rest
    (c.sooner-4.ensures ∙ ap₂ sooner one (c.sooner-3.ensures ∙ ap₂ sooner two (c.sooner-2.ensures ∙ ap₂ sooner three (c.sooner.ensures ∙ ap₂ sooner four five))))
    ∙ by_place code event (header c.args.header.now) keys
