use Rattle.std.proofs.Common.{◌-◌, ◌≤◌, length}
use Rattle.gw_er7.specs.Content.{is_line_end}
use Rattle.gw_er7.specs.own.Scanned.{FailsTo}
use Rattle.gw_er7.proofs.lines.line_from.Given as goal

abbrev pub invariant-loop-at : goal.invariant-loop-at
invariant-loop-at l = record { within : l.at ≤ length l.bytes; before : FailsTo is_line_end l.bytes l.at }

abbrev pub decreases-loop-at : goal.decreases-loop-at
decreases-loop-at l = length l.bytes - l.at
