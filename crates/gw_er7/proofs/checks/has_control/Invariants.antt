use Rattle.std.proofs.Common.{◌≡◌, ◌||◌, not, drop}
use Rattle.std.specs.List.{list_any}
use Rattle.gw_er7.specs.Content.{is_allowed}
use Rattle.gw_er7.proofs.checks.has_control.Given as goal

abbrev pub invariant-loop-byte : goal.invariant-loop-byte
invariant-loop-byte l = list_any (λ b. not (is_allowed b)) l.content ≡ (l.found || list_any (λ b. not (is_allowed b)) (drop l.byte-index l.content))
