use Rattle.std.proofs.Common.{◌≡◌, drop}
use Rattle.std.specs.List.{list_all}
use Rattle.gw_lines.specs.Spelled.{is_name}
use Rattle.gw_maplang.specs.Seen.{now_all}
use Rattle.gw_maplang.proofs.parts.are_names.Given as goal

abbrev pub invariant-loop-label : goal.invariant-loop-label
invariant-loop-label l = list_all is_name (now_all l.labels) ≡ list_all is_name (now_all (drop l.label-index l.labels))
