use Rattle.gw_profile.specs.Seen.{comp, profile_value}
use Rattle.std.proofs.Common.{take, drop, map, ◌+◌, [], ◌∷◌}
use Rattle.std.specs.FinMap as texts
use Rattle.gw_validate.specs.own.Gathering.{Gathers, Under}
use Rattle.gw_validate.specs.own.Least.{CompsBreach}
use Rattle.gw_validate.specs.own.Walk.{IsWalking}
use Rattle.gw_validate.proofs.fields.visit_comps.Given as goal

abbrev pub invariant-loop-comp : goal.invariant-loop-comp
invariant-loop-comp g l = record {
  all : Gathers (Under (l.field ∷ l.rep ∷ []) (CompsBreach (profile_value l.profile) l.segment.at l.field l.rep (map comp (take l.comp-index l.comps)))) (g.V.AtBreach.seen l.fn.visitor) (g.V.AtBreach.seen l.visitor);
  walk : IsWalking (λ c. c.number) (λ low. l.field ∷ l.rep ∷ (low + 1) ∷ 0 ∷ []) (texts.entries l.segment.at) (map comp (drop l.comp-index l.comps)) l.near;
}
