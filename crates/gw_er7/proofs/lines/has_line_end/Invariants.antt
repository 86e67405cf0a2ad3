use Rattle.std.proofs.Common.{◌≡◌, ◌||◌, drop}
use Rattle.std.specs.List.{list_any}
use Rattle.gw_er7.specs.Content.{is_line_end}
use Rattle.gw_er7.proofs.lines.has_line_end.Given as goal

abbrev pub invariant-loop-byte : goal.invariant-loop-byte
invariant-loop-byte l = list_any is_line_end l.bytes ≡ (l.found || list_any is_line_end (drop l.byte-index l.bytes))
