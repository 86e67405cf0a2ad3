use Rattle.std.proofs.Common.{◌≡◌, List, ◌++◌, drop}
use Rattle.gw_maplang.specs.Shapes.{TableValue}
use Rattle.gw_maplang.specs.Seen as raw
use Rattle.gw_profile.specs.Labels.{nodes_in}
use Rattle.gw_resolve.specs.Naming as spec
use Rattle.gw_resolve.specs.Seen.{scope as walked, failures}
use Rattle.gw_resolve.proofs.Built.{with_items}
use Rattle.gw_resolve.proofs.items.+items.Given as goal

abbrev pub invariant-resolve_items-loop-item : goal.invariant-resolve_items-loop-item
invariant-resolve_items-loop-item l = record {
  items : (tables : List TableValue) → spec.resolved_items tables (walked l.scope) (nodes_in l.level) (raw.all_items l.items) ≡ with_items tables l.built.items (spec.resolved_items tables (walked l.scope) (nodes_in l.level) (raw.all_items (drop l.item-index l.items)));
  paths : failures l.initial.lost.paths.items ++ (spec.path_failures (walked l.scope) (raw.all_items l.items)) ≡ failures l.lost.paths.items ++ (spec.path_failures (walked l.scope) (raw.all_items (drop l.item-index l.items)));
  targets : failures l.initial.lost.targets.items ++ (spec.target_failures (nodes_in l.level) 0 (raw.all_items l.items)) ≡ failures l.lost.targets.items ++ (spec.target_failures (nodes_in l.level) l.node (raw.all_items (drop l.item-index l.items)));
}
