use Rattle.std.proofs.Common.{◌≡◌, ◌++◌, drop}
use Rattle.gw_er7.specs.Message.{numbers}
use Rattle.gw_er7.specs.Written.{fields_text}
use Rattle.gw_er7.specs.View.{entries_of}
use Rattle.gw_er7.specs.own.Gaps.{levels}
use Rattle.gw_er7.proofs.Steps.{steps}
use Rattle.gw_er7.proofs.layout.write_fields.Given as goal

abbrev pub invariant-loop-i : goal.invariant-loop-i
invariant-loop-i l = l.out.items ++ steps levels (numbers l.here) (entries_of (drop l.i l.values)) ≡ l.fn.out.items ++ fields_text l.fn.first (entries_of l.values)
