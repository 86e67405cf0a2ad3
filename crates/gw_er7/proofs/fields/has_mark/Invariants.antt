use Rattle.std.proofs.Common.{◌≡◌, ◌||◌, drop}
use Rattle.std.specs.List.{list_any}
use Rattle.gw_er7.specs.own.Separators.{is_mark}
use Rattle.gw_er7.proofs.fields.has_mark.Given as goal

abbrev pub invariant-loop-byte : goal.invariant-loop-byte
invariant-loop-byte l = list_any (λ b. is_mark l.delimiters b) l.bytes ≡ (l.found || list_any (λ b. is_mark l.delimiters b) (drop l.byte-index l.bytes))
