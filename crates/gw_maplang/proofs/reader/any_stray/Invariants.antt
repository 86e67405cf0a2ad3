use Rattle.std.proofs.Common.{◌≡◌, drop, map, false}
use Rattle.std.specs.Prelude.{◌||◌}
use Rattle.std.specs.List.{list_any}
use Rattle.gw_maplang.specs.Shapes.{LeafValue}
use Rattle.gw_maplang.specs.Fault.{is_stray, is_early}
use Rattle.gw_maplang.specs.Seen.{leaf_value}
use Rattle.gw_maplang.proofs.reader.any_stray.Given as goal

abbrev pub invariant-loop-own : goal.invariant-loop-own
invariant-loop-own l = list_any (λ (o : LeafValue). is_stray false o.leaf || is_early l.second o.leaf) (map leaf_value l.leaves) ≡ list_any (λ (o : LeafValue). is_stray false o.leaf || is_early l.second o.leaf) (map leaf_value (drop l.own-index l.leaves))
