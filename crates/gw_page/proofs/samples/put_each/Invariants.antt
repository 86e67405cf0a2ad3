use Rattle.std.proofs.Common.{◌≡◌, ◌++◌, flat_map, take}
use Rattle.gw_page.specs.Samples.{sample}
use Rattle.gw_page.proofs.samples.put_each.Given as goal

abbrev pub invariant-loop-receiver : goal.invariant-loop-receiver
invariant-loop-receiver l = (l.out.items ≡ l.initial.out.items ++ flat_map (sample l.name l.figure) (take l.receiver-index l.receivers))
