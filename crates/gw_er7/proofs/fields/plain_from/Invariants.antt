use Rattle.std.proofs.Common.{◌-◌, ◌≤◌, length}
use Rattle.gw_er7.specs.own.Separators.{IsPlainTo}
use Rattle.gw_er7.proofs.fields.plain_from.Given as goal

abbrev pub invariant-loop-at : goal.invariant-loop-at
invariant-loop-at l = record { within : l.at ≤ length l.bytes; plain : IsPlainTo l.classes l.bytes l.at }

abbrev pub decreases-loop-at : goal.decreases-loop-at
decreases-loop-at l = length l.bytes - l.at

abbrev pub invariant-loop-at-2 : goal.invariant-loop-at-2
invariant-loop-at-2 l = record { within : l.at ≤ length l.bytes; plain : IsPlainTo l.classes l.bytes l.at }

abbrev pub decreases-loop-at-2 : goal.decreases-loop-at-2
decreases-loop-at-2 l = length l.bytes - l.at
