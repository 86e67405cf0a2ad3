use Rattle.std.proofs.Common.{ℕ}
use Rattle.gw_interp.specs.own.Making.{comp_key}
use Rattle.gw_interp.proofs.Copies.{CopiedUpTo}
use Rattle.gw_interp.proofs.copying.copy_rep.Given as goal

abbrev pub invariant-loop-i : goal.invariant-loop-i
invariant-loop-i l = CopiedUpTo (ℕ × ℕ) (comp_key l.fn.from) (comp_key l.to) l.segment.at l.first l.initial.builder l.i l.builder
