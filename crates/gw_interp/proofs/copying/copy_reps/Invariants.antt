use Rattle.std.proofs.Common.{ℕ}
use Rattle.gw_interp.specs.own.Making.{field_key}
use Rattle.gw_interp.proofs.Copies.{CopiedUpTo}
use Rattle.gw_interp.proofs.copying.copy_reps.Given as goal

abbrev pub invariant-loop-i : goal.invariant-loop-i
invariant-loop-i l = CopiedUpTo (ℕ × (ℕ × ℕ)) (field_key l.from) (field_key l.field) l.segment.at l.first l.initial.builder l.i l.builder
