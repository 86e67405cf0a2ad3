use Rattle.std.proofs.Common.{◌≡◌, drop, map}
use Rattle.std.specs.List.{position_from}
use Rattle.gw_lines.specs.Seen.{word}
use Rattle.gw_plan.specs.Line.{is_from}
use Rattle.gw_plan.proofs.form.cut_at_from.Given as goal

abbrev pub invariant-loop-i : goal.invariant-loop-i
invariant-loop-i l = position_from is_from l.i (map word (drop l.i l.words)) ≡ position_from is_from 0 (map word l.words)
