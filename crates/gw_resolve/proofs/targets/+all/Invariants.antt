use Rattle.std.proofs.Common.{◌≡◌, drop}
use Rattle.std.specs.List.{list_all}
use Rattle.std.specs.Prelude.{bytes_eq}
use Rattle.gw_maplang.specs.Seen.{all_items}
use Rattle.gw_resolve.specs.Naming as spec
use Rattle.gw_resolve.proofs.targets.+all.Given as goal

abbrev pub invariant-all_have-loop-item : goal.invariant-all_have-loop-item
invariant-all_have-loop-item l = list_all (bytes_eq l.label) (spec.labels (all_items l.items)) ≡ list_all (bytes_eq l.label) (spec.labels (all_items (drop l.item-index l.items)))
