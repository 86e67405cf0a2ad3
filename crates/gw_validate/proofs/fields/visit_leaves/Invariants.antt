use Rattle.gw_profile.specs.Seen.{sub, profile_value}
use Rattle.std.proofs.Common.{take, drop, map, ◌+◌, [], ◌∷◌}
use Rattle.std.specs.FinMap as texts
use Rattle.gw_validate.specs.own.Gathering.{Gathers, Under}
use Rattle.gw_validate.specs.own.Least.{SubsBreach}
use Rattle.gw_validate.specs.own.Walk.{IsWalking}
use Rattle.gw_validate.proofs.fields.visit_leaves.Given as goal

abbrev pub invariant-loop-sub : goal.invariant-loop-sub
invariant-loop-sub g l = record {
  all : Gathers (Under (l.comp.field ∷ l.comp.rep ∷ l.comp.comp ∷ []) (SubsBreach (profile_value l.profile) l.segment.at l.comp.field l.comp.rep l.comp.comp (map sub (take l.sub-index l.subs)))) (g.V.AtBreach.seen l.fn.visitor) (g.V.AtBreach.seen l.visitor);
  walk : IsWalking (λ s. s.number) (λ low. l.comp.field ∷ l.comp.rep ∷ l.comp.comp ∷ (low + 1) ∷ []) (texts.entries l.segment.at) (map sub (drop l.sub-index l.subs)) l.near;
}
