use Rattle.std.proofs.Common.{◌≡◌, drop}
use Rattle.std.specs.List.{list_all}
use Rattle.gw_lines.specs.Values.{is_value}
use Rattle.gw_maplang.specs.Seen.{items_all}
use Rattle.gw_maplang.proofs.reader.are_all_values.Given as goal

abbrev pub invariant-loop-value : goal.invariant-loop-value
invariant-loop-value l = list_all is_value (items_all l.all) ≡ list_all is_value (items_all (drop l.value-index l.all))
