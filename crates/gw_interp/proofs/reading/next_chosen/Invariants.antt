use Rattle.std.proofs.Common.{◌-◌, Some}
use Rattle.gw_maplang.specs.Seen.{condition}
use Rattle.gw_interp.specs.Meaning.{IsChosen}
use Rattle.gw_interp.proofs.Chosen.{NoneUpTo}
use Rattle.gw_interp.proofs.reading.next_chosen.Given as goal

abbrev pub invariant-loop-rep : goal.invariant-loop-rep
invariant-loop-rep l = NoneUpTo (IsChosen (Some (condition l.condition)) l.segment.at l.field) l.after l.rep

abbrev pub decreases-loop-rep : goal.decreases-loop-rep
decreases-loop-rep l = l.last - l.rep
