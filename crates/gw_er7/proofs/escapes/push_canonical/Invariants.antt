use Rattle.std.proofs.Common.{◌≡◌, ◌++◌, length}
use Rattle.gw_er7.specs.Text.{canon}
use Rattle.gw_er7.proofs.escapes.push_canonical.Given as goal

abbrev pub invariant-loop-rest : goal.invariant-loop-rest
invariant-loop-rest l = l.text.items ++ canon l.delimiters l.rest ≡ l.fn.text.items ++ canon l.delimiters l.raw

abbrev pub decreases-loop-rest : goal.decreases-loop-rest
decreases-loop-rest l = length l.rest
