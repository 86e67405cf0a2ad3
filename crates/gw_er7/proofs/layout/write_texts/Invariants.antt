use Rattle.std.proofs.Common.{◌≡◌, ◌++◌, drop}
use Rattle.gw_er7.specs.Message.{numbers}
use Rattle.gw_er7.specs.Written.{fields_text}
use Rattle.gw_er7.specs.View.{placed}
use Rattle.gw_er7.specs.own.Gaps.{levels}
use Rattle.gw_er7.proofs.Steps.{steps}
use Rattle.gw_er7.proofs.layout.write_texts.Given as goal

abbrev pub invariant-loop-value : goal.invariant-loop-value
invariant-loop-value l = l.out.items ++ steps levels (numbers l.here) (placed (drop l.value-index l.texts)) ≡ l.fn.out.items ++ fields_text l.fn.first (placed l.texts)
