use Rattle.std.proofs.Common.{◌≡◌, drop}
use Rattle.gw_lines.specs.Expected.{keyword_of}
use Rattle.gw_lines.proofs.expected.keyword_of.Given as goal

abbrev pub invariant-loop-i : goal.invariant-loop-i
invariant-loop-i l = keyword_of l.line ≡ keyword_of (drop l.i l.line)
