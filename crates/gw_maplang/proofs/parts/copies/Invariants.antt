use Rattle.std.proofs.Common.{◌≡◌, take}
use Rattle.gw_maplang.specs.Seen.{now_all, items_all}
use Rattle.gw_maplang.proofs.parts.copies.Given as goal

abbrev pub invariant-loop-label : goal.invariant-loop-label
invariant-loop-label l = items_all l.all.items ≡ now_all (take l.label-index l.labels)
