use Rattle.std.proofs.Common.{◌≡◌, drop, map, List}
use Rattle.gw_maplang.specs.Shapes.{TableValue}
use Rattle.gw_resolve.specs.Resolved as resolved
use Rattle.gw_resolve.specs.Seen.{rule}
use Rattle.gw_leaves.proofs.known.rule_of.Given as goal

abbrev pub invariant-loop-rule : goal.invariant-loop-rule
invariant-loop-rule l = (tables : List TableValue) → resolved.rule_of (map (rule tables) l.rules) l.number ≡ resolved.rule_of (map (rule tables) (drop l.rule-index l.rules)) l.number
