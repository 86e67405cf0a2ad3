use Rattle.std.proofs.Common.{◌-◌, ◌≤◌, length}
use Rattle.gw_er7.specs.own.Separators.{IsPlainTo}
use Rattle.gw_er7.proofs.fields.plain_behind.Given as goal

abbrev pub invariant-loop-at : goal.invariant-loop-at
invariant-loop-at l = record { within : l.at ≤ length l.bytes; plain : IsPlainTo l.classes l.bytes l.at }

abbrev pub decreases-loop-at : goal.decreases-loop-at
decreases-loop-at l = length l.bytes - l.at
