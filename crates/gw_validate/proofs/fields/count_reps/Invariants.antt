use Rattle.std.proofs.Common.{◌+◌, ◌-◌, ◌≤◌, ◌<◌, ◌^◌, [], ◌∷◌}
use Rattle.std.specs.FinMap as texts
use Rattle.gw_er7.specs.Presence.{RepAt}
use Rattle.gw_validate.specs.Breaches.{Counted}
use Rattle.gw_validate.specs.own.Walk.{IsBefore}
use Rattle.gw_validate.proofs.fields.count_reps.Given as goal

abbrev pub invariant-loop-next : goal.invariant-loop-next
invariant-loop-next l = record {
  counted : Counted (RepAt l.segment.at l.field) l.rep l.count;
  small : l.count ≤ l.rep;
  there : 0 < l.rep → RepAt l.segment.at l.field l.rep;
  before : IsBefore (l.field ∷ (l.rep + 1) ∷ 0 ∷ 0 ∷ []) (texts.entries l.segment.at) l.at;
}

abbrev pub decreases-loop-next : goal.decreases-loop-next
decreases-loop-next l = 2 ^ 64 - l.rep
