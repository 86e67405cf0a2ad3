use Rattle.std.proofs.Common.{◌≡◌, take}
use Rattle.gw_maplang.specs.Seen.{items_all}
use Rattle.gw_resolve.proofs.rules.copied_values.Given as goal

abbrev pub invariant-loop-text : goal.invariant-loop-text
invariant-loop-text l = items_all l.copies.items ≡ items_all (take l.text-index l.values)
