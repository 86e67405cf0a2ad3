use Rattle.std.proofs.Common.{◌≡◌, ◌++◌, drop, map}
use Rattle.std.specs.Option.{option_map}
use Rattle.gw_lines.specs.Seen.{word}
use Rattle.gw_plan.specs.Line.{plain_words}
use Rattle.gw_plan.specs.Seen.{now_all}
use Rattle.gw_plan.proofs.form.plain_words.Given as goal

abbrev pub invariant-loop-next : goal.invariant-loop-next
invariant-loop-next l =
    option_map (λ more. now_all l.all.items ++ more) (plain_words (map word (drop l.next-index l.words))) ≡ plain_words (map word l.words)
