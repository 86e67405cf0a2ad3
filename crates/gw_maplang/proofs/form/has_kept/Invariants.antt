use Rattle.std.proofs.Common.{◌≡◌, drop, map}
use Rattle.std.specs.List.{list_any}
use Rattle.gw_lines.specs.Seen.{word}
use Rattle.gw_maplang.specs.Line.{is_kept}
use Rattle.gw_maplang.proofs.form.has_kept.Given as goal

abbrev pub invariant-loop-next : goal.invariant-loop-next
invariant-loop-next l = list_any is_kept (map word l.words) ≡ list_any is_kept (map word (drop l.next-index l.words))
