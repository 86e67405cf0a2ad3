use Rattle.gw_profile.specs.Seen.{field, profile_value}
use Rattle.std.proofs.Common.{take, drop, map, ◌+◌, [], ◌∷◌}
use Rattle.std.specs.FinMap as texts
use Rattle.gw_validate.specs.Breaches.{SegmentBreach}
use Rattle.gw_validate.specs.own.Gathering.{Gathers}
use Rattle.gw_validate.specs.own.Walk.{IsWalking}
use Rattle.gw_validate.proofs.fields.visit_fields.Given as goal

abbrev pub invariant-loop-field : goal.invariant-loop-field
invariant-loop-field g l = record {
  all : Gathers (SegmentBreach (profile_value l.profile) (map field (take l.field-index l.fields)) l.segment.at) (g.V.AtBreach.seen l.fn.visitor) (g.V.AtBreach.seen l.visitor);
  walk : IsWalking (λ f. f.number) (λ low. (low + 1) ∷ 0 ∷ 0 ∷ 0 ∷ []) (texts.entries l.segment.at) (map field (drop l.field-index l.fields)) l.near;
}
