use Rattle.std.proofs.Common.{◌∙◌, sym, subst, List}
use Rattle.std.proofs.lemmas.Result.{IfOk-weaker}
use denote.Ref.{Bor}
use Rattle.gw_profile.specs.declared.shape.FieldShape.{FieldShape}
use Rattle.gw_profile.specs.Seen.{forest, profile_value}
use Rattle.gw_validate.specs.Every.{AreBreaches}
use Rattle.gw_validate.specs.own.Judging.{IsShaped}
use Rattle.gw_validate.proofs.Deciding.{taken_within}
use Rattle.gw_validate.proofs.Collecting.{shaped_within, shaped_breaches}
use Rattle.gw_validate.proofs.collect.breaches.Goals as goal

pub find_in_segments-requires-clause-within : goal.find_in_segments-requires-clause-within
find_in_segments-requires-clause-within c =
    taken_within (forest c.args.profile.now.nodes) c.args.message.now c.deref-in-Shapes.result.now (c.deref-in-Shapes.ensures.value ∙ c.in_ok-taken.ensures)

pub breaches_at-requires : goal.breaches_at-requires
breaches_at-requires c =
    let p = profile_value c.args.profile.now in
    let shape = subst (λ (l : List (Bor (List FieldShape))). IsShaped p c.args.message.now l) (sym c.deref-in-Shapes-2.ensures.value) (rw c.in-Shapes.is at c.in_ok-shapes.ensures) in
    shaped_within p c.args.message.now shape.determined c.deref-in-Shapes.result.now (c.deref-in-Shapes.ensures.value ∙ c.in_ok-taken.ensures) c.deref-in-Shapes-2.result.now shape c.in_ok-spots-in-Shapes.spots.items c.in_ok-spots-in-Shapes.ensures

pub returns-in-Shapes : goal.returns-in-Shapes
returns-in-Shapes c =
    let p = profile_value c.args.profile.now in
    let shape = subst (λ (l : List (Bor (List FieldShape))). IsShaped p c.args.message.now l) (sym c.deref-in-Shapes-2.ensures.value) (rw c.in-Shapes.is at c.in_ok-shapes.ensures) in
    IfOk-weaker c.breaches_at.result _ _
    (λ found e. subst (AreBreaches p c.args.message.now) (sym e)
    (shaped_breaches p c.args.message.now shape.determined c.deref-in-Shapes.result.now (c.deref-in-Shapes.ensures.value ∙ c.in_ok-taken.ensures) c.deref-in-Shapes-2.result.now shape c.in_ok-spots-in-Shapes.spots.items c.in_ok-spots-in-Shapes.ensures))
    c.breaches_at.ensures
