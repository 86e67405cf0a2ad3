use Rattle.std.proofs.Common.{◌≡◌, drop, map}
use Rattle.std.specs.List.{list_any}
use Rattle.gw_maplang.specs.Shapes.{LeafValue}
use Rattle.gw_maplang.specs.Fault.{is_unknown}
use Rattle.gw_maplang.specs.Seen.{leaf_value, wide_table}
use Rattle.gw_maplang.proofs.reader.any_unknown.Given as goal

abbrev pub invariant-loop-own : goal.invariant-loop-own
invariant-loop-own l =
    list_any (λ (o : LeafValue). is_unknown (map wide_table l.tables.entries) o.leaf) (map leaf_value l.leaves)
    ≡ list_any (λ (o : LeafValue). is_unknown (map wide_table l.tables.entries) o.leaf) (map leaf_value (drop l.own-index l.leaves))
