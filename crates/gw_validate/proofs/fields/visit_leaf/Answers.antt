use Rattle.std.proofs.Common.{ap, sym, ◌∙◌, ◌∷◌, []}
use Rattle.gw_profile.specs.Seen.{sub, profile_value}
use Rattle.gw_validate.specs.Breaches.{is_long}
use Rattle.gw_validate.proofs.Gathering.{stops_first, stops_then, visits_join, gathers_join, visits_err}
use Rattle.gw_validate.proofs.Every.{absent_leaf, usage_joins, null_rest, long_joins, last_leaf}
use Rattle.gw_validate.proofs.fields.visit_leaf.Goals as goal

pub returns-then-text-eq0 : goal.returns-then-text-eq0
returns-then-text-eq0 g c =
    let p = c.args.place in
    absent_leaf (profile_value c.args.profile.now) (sub c.args.shape.now) c.args.text.now (p.field ∷ p.rep ∷ p.comp ∷ p.sub ∷ []) g.V.AtBreach.stopped _ _ _ c.visit_if.result c.if-text-eq0.true c.is_required.ensures c.visit_if.ensures

pub returns-in_err-visit_if : goal.returns-in_err-visit_if
returns-in_err-visit_if g c =
    let p = c.args.place in
    let first = usage_joins (profile_value c.args.profile.now) (sub c.args.shape.now) c.args.text.now (p.field ∷ p.rep ∷ p.comp ∷ p.sub ∷ []) c.if-text-eq0.false _ c.is_forbidden.ensures in
    visits_err g.V.AtBreach.stopped _ _ _ _ c.from_residual.result c.from_residual.ensures (stops_first g.V.AtBreach.stopped _ _ _ first _ _ c.in_err-visit_if.ensures)

pub returns-then-is_null : goal.returns-then-is_null
returns-then-is_null g c =
    let p = c.args.place in
    let v = profile_value c.args.profile.now in
    let s = sub c.args.shape.now in
    let pre = p.field ∷ p.rep ∷ p.comp ∷ p.sub ∷ [] in
    gathers_join _ _ _ (usage_joins v s c.args.text.now pre c.if-text-eq0.false _ c.is_forbidden.ensures) _ _ _ c.in_ok-visit_if.ensures (null_rest v s c.args.text.now pre c.if-text-eq0.false (sym c.if-is_null.ensures) _)

pub returns-in_err-visit_if-2 : goal.returns-in_err-visit_if-2
returns-in_err-visit_if-2 g c =
    let p = c.args.place in
    let v = profile_value c.args.profile.now in
    let s = sub c.args.shape.now in
    let t = c.args.text.now in
    let pre = p.field ∷ p.rep ∷ p.comp ∷ p.sub ∷ [] in
    let some = c.if-text-eq0.false in
    let long = c.is_long-is_long.ensures ∙ ap (λ k. is_long k c.args.shape.now.len t) c.count.ensures in
    visits_err g.V.AtBreach.stopped _ _ _ _ c.from_residual-in_err-visit_if-2.result c.from_residual-in_err-visit_if-2.ensures
    (stops_then g.V.AtBreach.stopped _ _ _ (usage_joins v s t pre some _ c.is_forbidden.ensures) _ _ _ c.in_ok-visit_if.ensures
    (stops_first g.V.AtBreach.stopped _ _ _ (long_joins v s t pre some _ (sym c.if-is_null.ensures) long) _ _ c.in_err-visit_if-2.ensures))

pub returns : goal.returns
returns g c =
    let p = c.args.place in
    let v = profile_value c.args.profile.now in
    let s = sub c.args.shape.now in
    let t = c.args.text.now in
    let pre = p.field ∷ p.rep ∷ p.comp ∷ p.sub ∷ [] in
    let some = c.if-text-eq0.false in
    let long = c.is_long-is_long.ensures ∙ ap (λ k. is_long k c.args.shape.now.len t) c.count.ensures in
    visits_join g.V.AtBreach.stopped _ _ _ (usage_joins v s t pre some _ c.is_forbidden.ensures) _ _ _ c.visit_if-4.result c.in_ok-visit_if.ensures
    (visits_join g.V.AtBreach.stopped _ _ _ (long_joins v s t pre some _ (sym c.if-is_null.ensures) long) _ _ _ c.visit_if-4.result c.in_ok-visit_if-2.ensures
    (last_leaf v s t pre some g.V.AtBreach.stopped _ _ _ c.visit_if-4.result c.is_unlisted-is_unlisted.ensures c.visit_if-4.ensures))
