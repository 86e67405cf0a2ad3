use Rattle.std.proofs.Common.{◌≡◌, ◌==◌, drop}
use Rattle.gw_maplang.specs.Columns.{behind_first}
use Rattle.gw_maplang.proofs.parts.after_first_byte.Given as goal

abbrev pub invariant-loop-i : goal.invariant-loop-i
invariant-loop-i l = behind_first (λ b. b == l.end) l.bytes ≡ behind_first (λ b. b == l.end) (drop l.i l.bytes)
