use Rattle.std.proofs.Common.{◌-◌, [], ◌∷◌, length}
use Rattle.std.specs.FinMap as texts
use Rattle.gw_validate.specs.own.Walk.{IsBefore}
use Rattle.gw_validate.proofs.cursor.first_of.Given as goal

abbrev pub invariant-loop-value : goal.invariant-loop-value
invariant-loop-value l = IsBefore (l.field ∷ 1 ∷ 0 ∷ 0 ∷ []) (texts.entries l.segment.at) l.at

abbrev pub decreases-loop-value : goal.decreases-loop-value
decreases-loop-value l = length (texts.entries l.segment.at) - l.at
