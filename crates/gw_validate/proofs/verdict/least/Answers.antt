use Rattle.std.proofs.Common.{◌∙◌, List, ap, sym, subst}
use denote.Ref.{Bor}
use Rattle.gw_profile.specs.declared.shape.FieldShape.{FieldShape}
use Rattle.gw_profile.specs.Seen.{forest, profile_value}
use Rattle.gw_validate.specs.Broken.{sequence}
use Rattle.gw_validate.specs.own.Judging.{IsShaped}
use Rattle.gw_validate.specs.own.Least.{segment_key}
use Rattle.gw_validate.proofs.Deciding.{alone_least, shapes_same, taken_within, none_found, one_found}
use Rattle.gw_validate.proofs.verdict.least.Goals as goal

pub returns-in-Alone : goal.returns-in-Alone
returns-in-Alone c = alone_least (profile_value c.args.profile.now) c.args.message.now _ (rw c.in-Alone.is at c.in_ok-breach.ensures)

pub search-requires-clause-same : goal.search-requires-clause-same
search-requires-clause-same c =
    let p = profile_value c.args.profile.now in
    let shape = subst (λ (l : List (Bor (List FieldShape))). IsShaped p c.args.message.now l) (sym c.deref.ensures.value) (rw c.in-Shapes.is at c.in_ok-breach.ensures) in
    shapes_same p c.args.message.now shape.determined c.args.taken.now c.requires c.deref.result.now shape

pub search-requires-clause-rises : goal.search-requires-clause-rises
search-requires-clause-rises c =
    let p = profile_value c.args.profile.now in
    let shape = subst (λ (l : List (Bor (List FieldShape))). IsShaped p c.args.message.now l) (sym c.deref.ensures.value) (rw c.in-Shapes.is at c.in_ok-breach.ensures) in
    shape.rises

pub search-requires-clause-within : goal.search-requires-clause-within
search-requires-clause-within c = taken_within (forest c.args.profile.now.nodes) c.args.message.now c.args.taken.now c.requires

pub returns-in-None : goal.returns-in-None
returns-in-None c =
    let p = profile_value c.args.profile.now in
    let shape = subst (λ (l : List (Bor (List FieldShape))). IsShaped p c.args.message.now l) (sym c.deref.ensures.value) (rw c.in-Shapes.is at c.in_ok-breach.ensures) in
    none_found p c.args.message.now shape.determined c.args.taken.now c.requires c.deref.result.now shape c.in-None.ensures

pub returns : goal.returns
returns c =
    let p = profile_value c.args.profile.now in
    let shape = subst (λ (l : List (Bor (List FieldShape))). IsShaped p c.args.message.now l) (sym c.deref.ensures.value) (rw c.in-Shapes.is at c.in_ok-breach.ensures) in
    one_found p c.args.message.now shape.determined c.args.taken.now c.requires c.deref.result.now shape c.in-Some.number (segment_key c.in-Some.spot) c.breach_at.result c.in-Some.ensures
    (c.breach_at.ensures.segment ∙ c.name_at.ensures)
    (c.breach_at.ensures.sequence ∙ ap (sequence c.args.message.now c.in-Some.number) c.name_at.ensures)
    c.breach_at.ensures.spot
