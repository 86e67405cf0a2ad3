use Rattle.gw_profile.specs.Seen.{field, profile_value}
use Rattle.std.proofs.Common.{refl, ◌∷◌, [], ◌+◌}
use Rattle.std.specs.FinMap as texts
use Rattle.gw_validate.specs.Breaches.{FieldBreach}
use Rattle.gw_validate.specs.own.Least.{FieldRises}
use Rattle.gw_validate.proofs.Gathering.{all_at, gathers_begin, gathers_more, stops_more, visits_err}
use Rattle.gw_validate.proofs.Walks.{walk_here, walk_on, field_up, none_before}
use Rattle.gw_validate.proofs.fields.visit_fields.Goals as goal

pub loop-field-init : goal.loop-field-init
loop-field-init g c = record {
  all = gathers_begin [] field (λ s. s.number) (FieldBreach (profile_value c.args.profile.now) c.args.segment.now.at) c.args.fields.now (g.V.AtBreach.seen c.args.visitor.now);
  walk = record { low = 0; rises = c.requires.rises; before = none_before ((0 + 1) ∷ 0 ∷ 0 ∷ 0 ∷ []) (texts.entries c.args.segment.now.at) };
}

pub visit_field-requires-clause-rises : goal.visit_field-requires-clause-rises
visit_field-requires-clause-rises g c = all_at field FieldRises c.args.fields.now c.loop-field.field-index c.field-item.result c.loop-field-test.true c.field-item.is c.requires.each

pub visit_field-requires-clause-near : goal.visit_field-requires-clause-near
visit_field-requires-clause-near g c =
    walk_here field (λ s. s.number) (λ low. (low + 1) ∷ 0 ∷ 0 ∷ 0 ∷ []) (λ s. s ∷ 1 ∷ 0 ∷ 0 ∷ []) (texts.entries c.args.segment.now.at) c.args.fields.now c.loop-field.field-index c.loop-field.near c.field-item.result c.loop-field-test.true c.field-item.is c.loop-field.invariant.walk field_up (λ a b. refl)

pub returns-in_err-visit_field : goal.returns-in_err-visit_field
returns-in_err-visit_field g c =
    visits_err g.V.AtBreach.stopped _ _ _ _ c.from_residual.result c.from_residual.ensures
    (stops_more [] field (λ s. s.number) (FieldBreach (profile_value c.args.profile.now) c.args.segment.now.at) c.args.fields.now c.loop-field.field-index c.field-item.result _ _ c.loop-field-test.true c.field-item.is c.requires.rises c.loop-field.invariant.all g.V.AtBreach.stopped _ c.in_err-visit_field.ensures.all)

pub loop-field-preserved : goal.loop-field-preserved
loop-field-preserved g c = record {
  all = gathers_more [] field (λ s. s.number) (FieldBreach (profile_value c.args.profile.now) c.args.segment.now.at) c.args.fields.now c.loop-field.field-index c.field-item.result _ _ c.loop-field-test.true c.field-item.is c.requires.rises c.loop-field.invariant.all _ c.in_ok-visit_field.ensures.all;
  walk = walk_on field (λ s. s.number) (λ low. (low + 1) ∷ 0 ∷ 0 ∷ 0 ∷ []) (λ s. s ∷ 1 ∷ 0 ∷ 0 ∷ []) (texts.entries c.args.segment.now.at) c.args.fields.now c.loop-field.field-index c.loop-field.near c.field-item.result c.loop-field-test.true c.field-item.is c.loop-field.invariant.walk _ c.in_ok-visit_field.ensures.near;
}
