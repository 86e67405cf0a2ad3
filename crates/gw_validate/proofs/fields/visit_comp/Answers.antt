use Rattle.gw_profile.specs.Seen.{comp, profile_value}
use Rattle.std.proofs.Common.{refl, ◌∷◌, []}
use Rattle.std.specs.FinMap as texts
use Rattle.gw_validate.proofs.Gathering.{on_any, stops_first, visits_join, visits_err}
use Rattle.gw_validate.proofs.Every.{absent_comp, comp_joins}
use Rattle.gw_validate.proofs.Walks.{from_start, comp_end}
use Rattle.gw_validate.proofs.fields.visit_comp.Goals as goal

pub returns-then-not-has_comp-clause-all : goal.returns-then-not-has_comp-clause-all
returns-then-not-has_comp-clause-all g c =
    absent_comp (profile_value c.args.profile.now) c.args.segment.now.at c.args.field c.args.rep (comp c.args.shape.now) (c.args.field ∷ c.args.rep ∷ c.args.shape.now.number ∷ []) g.V.AtBreach.stopped _ _ _ c.visit_if.result (c.if-not-has_comp.ensures.no refl) c.is_required.ensures c.visit_if.ensures

pub returns-then-not-has_comp-clause-near : goal.returns-then-not-has_comp-clause-near
returns-then-not-has_comp-clause-near g c =
    let key = c.args.field ∷ c.args.rep ∷ c.args.shape.now.number ∷ 0 ∷ [] in
    let es = texts.entries c.args.segment.now.at in
    on_any c.visit_if.result _ (comp_end c.args.field c.args.rep c.args.shape.now.number 0 es c.first_from-at.result.0 (from_start key es c.first_from-at.result.0 c.first_from-at.ensures.start))

pub returns-in_err-visit_if-clause-all : goal.returns-in_err-visit_if-clause-all
returns-in_err-visit_if-clause-all g c =
    let joins = comp_joins (profile_value c.args.profile.now) c.args.segment.now.at c.args.field c.args.rep (comp c.args.shape.now) (c.args.field ∷ c.args.rep ∷ c.args.shape.now.number ∷ []) _ c.requires.rises (c.if-not-has_comp.ensures.yes refl) c.is_forbidden.ensures in
    visits_err g.V.AtBreach.stopped _ _ _ _ c.from_residual.result c.from_residual.ensures (stops_first g.V.AtBreach.stopped _ _ _ joins _ _ c.in_err-visit_if.ensures)

pub returns-clause-all : goal.returns-clause-all
returns-clause-all g c =
    let joins = comp_joins (profile_value c.args.profile.now) c.args.segment.now.at c.args.field c.args.rep (comp c.args.shape.now) (c.args.field ∷ c.args.rep ∷ c.args.shape.now.number ∷ []) _ c.requires.rises (c.if-not-has_comp.ensures.yes refl) c.is_forbidden.ensures in
    visits_join g.V.AtBreach.stopped _ _ _ joins _ _ _ c.visit_texts.result c.in_ok-visit_if.ensures (rw c.deref.ensures.value at c.visit_texts.ensures.all)
