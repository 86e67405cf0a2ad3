use Rattle.gw_profile.specs.Seen.{field, profile_value}
use Rattle.std.proofs.Common.{◌∷◌, []}
use Rattle.gw_validate.proofs.Gathering.{stops_first, visits_join, visits_err}
use Rattle.gw_validate.proofs.Every.{rep_joins}
use Rattle.gw_validate.proofs.fields.visit_rep.Goals as goal

pub returns-in_err-visit_if-clause-all : goal.returns-in_err-visit_if-clause-all
returns-in_err-visit_if-clause-all g c =
    let joins = rep_joins (profile_value c.args.profile.now) c.args.segment.now.at (field c.args.shape.now) (c.args.shape.now.number ∷ c.args.rep ∷ []) c.args.rep c.args.before _ c.requires.rises c.requires.before c.is_beyond.ensures.yes c.is_beyond.ensures.no in
    visits_err g.V.AtBreach.stopped _ _ _ _ c.from_residual.result c.from_residual.ensures (stops_first g.V.AtBreach.stopped _ _ _ joins _ _ c.in_err-visit_if.ensures)

pub returns-clause-all : goal.returns-clause-all
returns-clause-all g c =
    let joins = rep_joins (profile_value c.args.profile.now) c.args.segment.now.at (field c.args.shape.now) (c.args.shape.now.number ∷ c.args.rep ∷ []) c.args.rep c.args.before _ c.requires.rises c.requires.before c.is_beyond.ensures.yes c.is_beyond.ensures.no in
    visits_join g.V.AtBreach.stopped _ _ _ joins _ _ _ c.visit_comps.result c.in_ok-visit_if.ensures (rw c.deref.ensures.value at c.visit_comps.ensures.all)
