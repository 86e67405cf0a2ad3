use Rattle.std.proofs.Common.{List}
use Rattle.gw_maplang.specs.Shapes.{TableValue}
use Rattle.gw_resolve.specs.Seen.{rule}
use Rattle.gw_resolve.specs.Positions.{positions}
use Rattle.gw_resolve.proofs.Listing.{Tells}
use Rattle.gw_check.specs.Seen.{all_sites}
use Rattle.gw_check.specs.Sites.{rule_sites}
use Rattle.gw_check.proofs.segments.add_rules.Given as goal

abbrev pub invariant-loop-rule : goal.invariant-loop-rule
invariant-loop-rule l =
    (tables : List TableValue) → Tells (rule_sites (positions l.scope) l.at) (rule tables) (all_sites tables l.initial.sites.items) (all_sites tables l.sites.items) l.rule-index l.rules
