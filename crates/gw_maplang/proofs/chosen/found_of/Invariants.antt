use Rattle.std.proofs.Common.{take}
use Rattle.gw_maplang.specs.Seen.{items_all}
use Rattle.gw_maplang.specs.own.Finding.{AreFound}
use Rattle.gw_maplang.proofs.chosen.found_of.Given as goal

abbrev pub invariant-loop-value : goal.invariant-loop-value
invariant-loop-value l = AreFound (items_all (take l.value-index l.values)) (items_all l.found.keys)
