use Rattle.gw_profile.specs.Seen.{field, profile_value}
use Rattle.std.proofs.Common.{sym, arith, ◌∷◌, []}
use Rattle.std.specs.FinMap as texts
use Rattle.gw_validate.proofs.Gathering.{on_any, stops_first, visits_join, visits_err}
use Rattle.gw_validate.proofs.Every.{absent_field, unwelcome_joins, short_joins}
use Rattle.gw_validate.proofs.Nexts.{none_behind}
use Rattle.gw_validate.proofs.Walks.{field_end}
use Rattle.gw_validate.proofs.fields.visit_field.Goals as goal

pub returns-then-near-value_count-clause-all : goal.returns-then-near-value_count-clause-all
returns-then-near-value_count-clause-all g c =
    let past = none_behind c.args.segment.now c.args.shape.now.number c.args.near.now c.value_count.ensures.segment c.requires.near (omega (arith, c.if-near-value_count.true, c.value_count.ensures.count)) in
    absent_field (profile_value c.args.profile.now) c.args.segment.now.at (field c.args.shape.now) (c.args.shape.now.number ∷ []) g.V.AtBreach.stopped _ _ _ c.visit_if.result past.some past.none c.has_to_come.ensures.yes c.has_to_come.ensures.no c.visit_if.ensures

pub returns-then-near-value_count-clause-near : goal.returns-then-near-value_count-clause-near
returns-then-near-value_count-clause-near g c = on_any c.visit_if.result _ (field_end c.args.shape.now.number 1 0 0 (texts.entries c.args.segment.now.at) c.args.near.now c.requires.near)

pub returns-in_err-visit_if-clause-all : goal.returns-in_err-visit_if-clause-all
returns-in_err-visit_if-clause-all g c =
    let there = c.is_there-present.ensures in
    let joins = unwelcome_joins (profile_value c.args.profile.now) c.args.segment.now.at (field c.args.shape.now) (c.args.shape.now.number ∷ []) _ there.some (sym c.if-is_forbidden.ensures) there.yes there.no in
    visits_err g.V.AtBreach.stopped _ _ _ _ c.from_residual.result c.from_residual.ensures (stops_first g.V.AtBreach.stopped _ _ _ joins _ _ c.in_err-visit_if.ensures)

pub returns-then-is_forbidden-clause-all : goal.returns-then-is_forbidden-clause-all
returns-then-is_forbidden-clause-all g c =
    let there = c.is_there-present.ensures in
    let joins = unwelcome_joins (profile_value c.args.profile.now) c.args.segment.now.at (field c.args.shape.now) (c.args.shape.now.number ∷ []) _ there.some (sym c.if-is_forbidden.ensures) there.yes there.no in
    visits_join g.V.AtBreach.stopped _ _ _ joins _ _ _ c.visit_reps.result c.in_ok-visit_if.ensures c.visit_reps.ensures.all

pub returns-in_err-visit_if-2-clause-all : goal.returns-in_err-visit_if-2-clause-all
returns-in_err-visit_if-2-clause-all g c =
    let joins = short_joins (profile_value c.args.profile.now) c.args.segment.now.at (field c.args.shape.now) (c.args.shape.now.number ∷ []) _ c.is_there-present.ensures.some (sym c.if-is_forbidden.ensures) c.comes_short-is_short.ensures.yes c.comes_short-is_short.ensures.no in
    visits_err g.V.AtBreach.stopped _ _ _ _ c.from_residual-in_err-visit_if-2.result c.from_residual-in_err-visit_if-2.ensures (stops_first g.V.AtBreach.stopped _ _ _ joins _ _ c.in_err-visit_if-2.ensures)

pub returns-clause-all : goal.returns-clause-all
returns-clause-all g c =
    let joins = short_joins (profile_value c.args.profile.now) c.args.segment.now.at (field c.args.shape.now) (c.args.shape.now.number ∷ []) _ c.is_there-present.ensures.some (sym c.if-is_forbidden.ensures) c.comes_short-is_short.ensures.yes c.comes_short-is_short.ensures.no in
    visits_join g.V.AtBreach.stopped _ _ _ joins _ _ _ c.visit_reps-2.result c.in_ok-visit_if-2.ensures c.visit_reps-2.ensures.all
