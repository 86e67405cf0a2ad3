use Rattle.std.proofs.Common.{◌≡◌, ◌∙◌, ap, subst, List, map, get_or}
use Rattle.gw_profile.specs.declared.node.Node.{Node}
use Rattle.gw_profile.specs.Seen.{forest, profile_value}
use Rattle.gw_validate.specs.declared.walk.Answer.TheVariants as answer
use Rattle.gw_validate.specs.own.Answers.{Answers}
use Rattle.gw_validate.specs.Conforming.{named, numbers}
use Rattle.gw_validate.specs.Broken.{sequence}
use Rattle.gw_validate.specs.own.Least.{segment_key}
use Rattle.gw_validate.specs.declared.fields.Spot.{Spot}
use Rattle.gw_validate.proofs.Deciding.{shaped, order_judged, missing_judged}
use Rattle.gw_profile.specs.WellFormed.{table_names}
use Rattle.gw_validate.proofs.Lawful.{each_rises}
use Rattle.gw_validate.proofs.verdict.place_segments.Goals as goal

pub returns-in-Fits : goal.returns-in-Fits
returns-in-Fits c =
    let known : map (named c.args.message.now) c.args.taken.now ≡ map (named c.args.message.now) (numbers (forest c.args.profile.now.nodes) c.args.message.now) =
    ap (map (named c.args.message.now)) c.requires in
    shaped (profile_value c.args.profile.now) c.args.message.now c.nodes.ensures.formed.determined (map (named c.args.message.now) c.args.taken.now) c.in-Fits.shapes known
    (each_rises (table_names c.args.profile.now.tables) (forest c.args.profile.now.nodes) c.nodes.ensures.formed.segments)
    (subst (λ (l : List Node). Answers (forest l) (map (named c.args.message.now) c.args.taken.now) (answer.Fits c.in-Fits.shapes)) c.nodes.ensures.value (rw c.in-Fits.is at c.in_ok-shapes.ensures))

pub returns-in-OutOfOrder : goal.returns-in-OutOfOrder
returns-in-OutOfOrder c =
    let known : map (named c.args.message.now) c.args.taken.now ≡ map (named c.args.message.now) (numbers (forest c.args.profile.now.nodes) c.args.message.now) =
    ap (map (named c.args.message.now)) c.requires in
    let walked = (subst (λ (l : List Node). Answers (forest l) (map (named c.args.message.now) c.args.taken.now) (answer.OutOfOrder c.in-OutOfOrder.i)) c.nodes.ensures.value (rw c.in-OutOfOrder.is at c.in_ok-shapes.ensures)) in
    let number = get_or c.args.taken.now c.in-OutOfOrder.i 0 in
    order_judged (profile_value c.args.profile.now) c.args.message.now c.nodes.ensures.formed.determined (map (named c.args.message.now) c.args.taken.now) c.in-OutOfOrder.i known walked
    number c.breach_at.result (ap (λ l. get_or l c.in-OutOfOrder.i 0) c.requires)
    (c.breach_at.ensures.segment ∙ c.name_at-name.ensures)
    (c.breach_at.ensures.sequence ∙ ap (sequence c.args.message.now number) c.name_at-name.ensures)
    (c.breach_at.ensures.spot ∙ ap (λ (s : Spot). segment_key s) c.of_kind-spot.ensures)

pub returns-in-Missing : goal.returns-in-Missing
returns-in-Missing c =
    let known : map (named c.args.message.now) c.args.taken.now ≡ map (named c.args.message.now) (numbers (forest c.args.profile.now.nodes) c.args.message.now) =
    ap (map (named c.args.message.now)) c.requires in
    missing_judged (profile_value c.args.profile.now) c.args.message.now c.nodes.ensures.formed.determined (map (named c.args.message.now) c.args.taken.now) c.in-Missing.name c.segment_count-number.result c.breach_at-in-Missing.result known
    (subst (λ (l : List Node). Answers (forest l) (map (named c.args.message.now) c.args.taken.now) (answer.Missing c.in-Missing.name)) c.nodes.ensures.value (rw c.in-Missing.is at c.in_ok-shapes.ensures))
    c.segment_count-number.ensures.count c.breach_at-in-Missing.ensures.segment c.breach_at-in-Missing.ensures.sequence
    (c.breach_at-in-Missing.ensures.spot ∙ ap (λ (s : Spot). segment_key s) c.of_kind-spot-in-Missing.ensures)
