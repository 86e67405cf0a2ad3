use Rattle.gw_profile.specs.Seen.{field, profile_value}
use Rattle.std.proofs.Common.{◌+◌, ◌-◌, ◌^◌, [], ◌∷◌}
use Rattle.std.specs.Prelude.{MatchOption}
use Rattle.std.specs.FinMap as texts
use Rattle.gw_validate.specs.own.Gathering.{Gathers, Under, RepsTo, RepsGone}
use Rattle.gw_validate.specs.own.Walk.{IsBefore, IsNextRep, IsNoRep}
use Rattle.gw_validate.proofs.fields.visit_reps.Given as goal

abbrev pub invariant-loop-found : goal.invariant-loop-found
invariant-loop-found g l = record {
  all : Gathers (Under (l.shape.number ∷ []) (RepsTo (profile_value l.profile) l.segment.at (field l.shape) l.rep)) (g.V.AtBreach.seen l.fn.visitor) (g.V.AtBreach.seen l.visitor);
  gone : RepsGone (profile_value l.profile) l.segment.at (field l.shape) l.rep l.before;
  next : MatchOption l.found (IsNoRep l.segment.at l.shape.number l.rep) (IsNextRep l.segment.at l.shape.number l.rep);
  here : MatchOption l.found (IsBefore ((l.shape.number + 1) ∷ 0 ∷ 0 ∷ 0 ∷ []) (texts.entries l.segment.at) l.near)
      (λ rep. IsBefore (l.shape.number ∷ rep ∷ 0 ∷ 0 ∷ []) (texts.entries l.segment.at) l.near);
}

abbrev pub decreases-loop-found : goal.decreases-loop-found
decreases-loop-found g l = 2 ^ 64 - l.rep
