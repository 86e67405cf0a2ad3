use Rattle.gw_profile.specs.Seen.{sub, profile_value}
use Rattle.std.proofs.Common.{◌∷◌, [], sym, arith, rules}
use Rattle.std.specs.FinMap as texts
use Rattle.gw_validate.proofs.Every.{only_texts}
use Rattle.gw_validate.proofs.Gathering.{on_any}
use Rattle.gw_validate.proofs.Nexts.{comp_within, comp_is, of_comp}
use Rattle.gw_validate.proofs.Walks.{from_start, first_sub, text_is, behind_comp}
use Rattle.gw_validate.proofs.fields.visit_texts.Goals as goal

pub returns-in_default-clause-all : goal.returns-in_default-clause-all
returns-in_default-clause-all g c =
    let p = c.args.comp in
    let past = rw c.in_default.is at c.requires.value in
    let within = comp_within c.args.segment.now p.field p.rep p.comp c.args.near.now c.value_count-count.ensures.segment c.requires.start c.requires.there in
    absurd (omega (arith, within, past))

pub returns-in_default-clause-near : goal.returns-in_default-clause-near
returns-in_default-clause-near g c =
    let p = c.args.comp in
    let past = rw c.in_default.is at c.requires.value in
    let within = comp_within c.args.segment.now p.field p.rep p.comp c.args.near.now c.value_count-count.ensures.segment c.requires.start c.requires.there in
    absurd (omega (arith, within, past))

pub visit_leaves-requires-clause-near : goal.visit_leaves-requires-clause-near
visit_leaves-requires-clause-near g c =
    let p = c.args.comp in
    let es = texts.entries c.args.segment.now.at in
    first_sub p.field p.rep p.comp es c.args.near.now (from_start (p.field ∷ p.rep ∷ p.comp ∷ 0 ∷ []) es c.args.near.now c.requires.start)

pub overflow_add-near : goal.overflow_add-near
overflow_add-near g c =
    let here = rw c.in-Some.is at c.requires.value in
    search rules

pub returns-clause-all : goal.returns-clause-all
returns-clause-all g c =
    let p = c.args.comp in
    let v = c.in-Some.value in
    let here = rw c.in-Some.is at c.requires.value in
    let is = comp_is c.args.segment.now p.field p.rep p.comp c.args.near.now c.value_count-count.ensures.segment c.requires.start v.place.field v.place.rep v.place.comp v.place.sub v.text.now here.is c.requires.there in
    let leaf = sub c.in-Some-only_leaf.leaf.now in
    let at = of_comp (texts.entries c.args.segment.now.at) p.field p.rep p.comp leaf.number c.args.near.now v.place.field v.place.rep v.place.comp v.place.sub v.text.now here.is is c.in-Some-only_leaf.ensures.is in
    only_texts (profile_value c.args.profile.now) c.args.segment.now.at p.field p.rep p.comp leaf (p.field ∷ p.rep ∷ p.comp ∷ []) g.V.AtBreach.stopped v.text.now v.place.sub _ _ _ c.visit_leaf.result (sym (text_is c.args.segment.now p.field p.rep p.comp leaf.number c.args.near.now v.text.now at)) c.in-Some-only_leaf.ensures.is c.in-Some-only_leaf.ensures.alone c.visit_leaf.ensures

pub returns-clause-near : goal.returns-clause-near
returns-clause-near g c =
    let p = c.args.comp in
    let v = c.in-Some.value in
    let here = rw c.in-Some.is at c.requires.value in
    let is = comp_is c.args.segment.now p.field p.rep p.comp c.args.near.now c.value_count-count.ensures.segment c.requires.start v.place.field v.place.rep v.place.comp v.place.sub v.text.now here.is c.requires.there in
    let leaf = sub c.in-Some-only_leaf.leaf.now in
    let es = texts.entries c.args.segment.now.at in
    let at = of_comp es p.field p.rep p.comp leaf.number c.args.near.now v.place.field v.place.rep v.place.comp v.place.sub v.text.now here.is is c.in-Some-only_leaf.ensures.is in
    on_any c.visit_leaf.result _ (behind_comp p.field p.rep p.comp leaf.number v.text.now es c.args.near.now (from_start (p.field ∷ p.rep ∷ p.comp ∷ 0 ∷ []) es c.args.near.now c.requires.start) here.within at)
