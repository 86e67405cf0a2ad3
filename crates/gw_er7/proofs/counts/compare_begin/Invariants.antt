use Rattle.std.proofs.Common.{◌≡◌, drop}
use Rattle.gw_er7.specs.Message.{numbers}
use Rattle.gw_er7.specs.View.{compare_begin}
use Rattle.gw_er7.proofs.counts.compare_begin.Given as goal

abbrev pub invariant-loop-i : goal.invariant-loop-i
invariant-loop-i l = compare_begin (numbers l.fn.place) l.fn.prefix ≡ compare_begin (drop l.i (numbers l.fn.place)) (drop l.i l.fn.prefix)
