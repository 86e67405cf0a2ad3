use Rattle.gw_resolve.specs.Seen.{failures, rule}
use Rattle.gw_leaves.specs.Reached.{rule_failures}
use Rattle.gw_leaves.specs.Uses.{sources_value, map_tables}
use Rattle.gw_resolve.proofs.Listing.{Tells}
use Rattle.gw_leaves.proofs.reached.check_reached.Given as goal

abbrev pub invariant-loop-rule : goal.invariant-loop-rule
invariant-loop-rule l = Tells (rule_failures (sources_value l.sources)) (rule (map_tables l.sources)) (failures l.initial.found.items) (failures l.found.items) l.rule-index l.rules
