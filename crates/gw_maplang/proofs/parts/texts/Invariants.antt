use Rattle.std.proofs.Common.{◌≡◌, ◌++◌, drop, map}
use Rattle.std.specs.Option.{option_map}
use Rattle.gw_lines.specs.Seen.{word}
use Rattle.gw_maplang.specs.Line.{texts}
use Rattle.gw_maplang.proofs.parts.texts.Given as goal

abbrev pub invariant-loop-next : goal.invariant-loop-next
invariant-loop-next l =
    option_map (λ more. map (λ b. b.now) l.all.items ++ more) (texts (map word (drop l.next-index l.words))) ≡ texts (map word l.words)
