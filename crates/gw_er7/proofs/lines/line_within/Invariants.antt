use Rattle.std.proofs.Common.{◌-◌, ◌≤◌}
use Rattle.std.specs.List.{position_or_len}
use Rattle.gw_er7.specs.Content.{is_line_end}
use Rattle.gw_er7.specs.own.Scanned.{FailsTo}
use Rattle.gw_er7.proofs.lines.line_within.Given as goal

abbrev pub invariant-loop-at : goal.invariant-loop-at
invariant-loop-at l = record { below : l.at ≤ position_or_len is_line_end l.bytes; before : FailsTo is_line_end l.bytes l.at }

abbrev pub decreases-loop-at : goal.decreases-loop-at
decreases-loop-at l = position_or_len is_line_end l.bytes - l.at
