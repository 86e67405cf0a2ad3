use Rattle.std.proofs.Common.{◌≤◌, ◌-◌, length, take, drop}
use Rattle.gw_profile.specs.Seen.{segment_value}
use Rattle.gw_validate.specs.own.Building.{GoSegments}
use Rattle.gw_validate.specs.Conforming.{named}
use Rattle.gw_validate.proofs.build.pass_segments.Given as goal

abbrev pub invariant-loop-here : goal.invariant-loop-here
invariant-loop-here l = record {
  on : l.at ≤ l.here;
  going : GoSegments (named l.message) (segment_value l.segment) (drop l.at l.listed) (take (l.here - l.at) (drop l.at l.listed)) l.due.min l.due.max (drop l.here l.listed);
}

abbrev pub decreases-loop-here : goal.decreases-loop-here
decreases-loop-here l = length l.listed - l.here
