use Rattle.std.proofs.Common.{◌≡◌, ◌≤◌, ◌++◌}
use Rattle.std.specs.Char.Escape.{escape_ascii}
use Rattle.std.specs.Char.Iter.{escape_byte_rest, escape_byte_left, escape_byte_end}
use Rattle.gw_page.proofs.texts.put_byte.Given as goal

abbrev pub invariant-escape : goal.invariant-escape
invariant-escape l = (escape_byte_end l.rest ≤ 4) × (l.out.items ++ escape_byte_rest l.rest ≡ l.initial.out.items ++ escape_ascii l.byte)

abbrev pub decreases-escape : goal.decreases-escape
decreases-escape l = escape_byte_left l.rest
