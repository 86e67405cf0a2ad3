use Rattle.std.proofs.Common.{◌≡◌, ◌++◌, drop, map}
use Rattle.std.specs.Option.{option_map}
use Rattle.gw_lines.specs.Seen.{word}
use Rattle.gw_lines.specs.Parts.{values}
use Rattle.gw_lines.proofs.parts.values.Given as goal

abbrev pub invariant-loop-next : goal.invariant-loop-next
invariant-loop-next l =
    option_map (λ more. map (λ b. b.now) l.values.items ++ more) (values (map word (drop l.next-index l.words))) ≡ values (map word l.words)
