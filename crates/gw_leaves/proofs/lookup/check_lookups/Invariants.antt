use Rattle.gw_resolve.specs.Seen.{failures, rule}
use Rattle.gw_leaves.specs.Components.{rule_lookups}
use Rattle.gw_leaves.specs.Uses.{sources_value, map_tables}
use Rattle.gw_resolve.proofs.Listing.{Tells}
use Rattle.gw_leaves.proofs.lookup.check_lookups.Given as goal

abbrev pub invariant-loop-rule : goal.invariant-loop-rule
invariant-loop-rule l = Tells (rule_lookups (sources_value l.sources)) (rule (map_tables l.sources)) (failures l.initial.found.items) (failures l.found.items) l.rule-index l.rules
