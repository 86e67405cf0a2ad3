-- What the rules of a map can read, and what they find of a field by it, as the program holds it.
use Rattle.std.specs.Prelude.{◌≡◌, List, map, Option, option_map}
use denote.Ref.{Bor}
use Rattle.gw_profile.specs.declared.shape.FieldShape.{FieldShape}
use Rattle.gw_profile.specs.Shapes.{ProfileValue}
use Rattle.gw_profile.specs.Seen.{field, profile_value}
use Rattle.gw_maplang.specs.declared.rule.Condition.{Condition}
use Rattle.gw_maplang.specs.Shapes.{TableValue}
use Rattle.gw_maplang.specs.Seen.{condition_some}
use Rattle.gw_resolve.specs.declared.failure.FailureSite.{FailureSite}
use Rattle.gw_resolve.specs.declared.interval.Interval as intervals
use Rattle.gw_resolve.specs.declared.resolved.Making.{Making}
use Rattle.gw_resolve.specs.declared.resolved.Reference.{Reference}
use Rattle.gw_resolve.specs.declared.resolved.Rule as rules_of
use Rattle.gw_resolve.specs.Failures.{Failure}
use Rattle.gw_resolve.specs.Intervals.{Interval}
use Rattle.gw_resolve.specs.Resolved.{Rule}
use Rattle.gw_resolve.specs.Seen.{scope, interval, saturated, mark, reference, making, rule}
use Rattle.gw_leaves.specs.declared.sources.Sources as declared
use Rattle.gw_leaves.specs.Leaves.{Sources}
use Rattle.gw_leaves.specs.Components as components
use Rattle.gw_leaves.specs.Counts as counts
use Rattle.gw_leaves.specs.Reached as reached

abbrev pub sources_value : declared.Sources → Sources
sources_value s = record { profile = profile_value s.context.now.source; scope = scope s.scope.now; current = option_map (λ f. field f.now) s.current }

-- the tables of the map
abbrev pub map_tables : declared.Sources → List TableValue
map_tables s = s.context.now.map.tables

abbrev pub target_value : declared.Sources → ProfileValue
target_value s = profile_value s.context.now.target

abbrev pub some_rule : List TableValue → Option (Bor rules_of.Rule) → Option Rule
some_rule tables r = option_map (λ b. rule tables b.now) r

abbrev pub rules_value : declared.Sources → List rules_of.Rule → List Rule
rules_value s rules = map (rule (map_tables s)) rules

-- ---- what is found of a field

-- how often its rule gives it
abbrev pub rule_count : declared.Sources → Option (Bor rules_of.Rule) → Interval
rule_count s r = counts.rule_count (sources_value s) (some_rule (map_tables s) r)

-- the program's count of that
abbrev pub CountsRule : declared.Sources → Option (Bor rules_of.Rule) → intervals.Interval → Type 0
CountsRule s r c = interval c ≡ saturated (rule_count s r)

-- the failures of what a rule makes
abbrev pub making_failures : declared.Sources → FailureSite → Making → FieldShape → List Failure
making_failures s at m target = components.making_failures (sources_value s) (target_value s) (mark at) (making (map_tables s) m) (field target)

-- the failure of a condition, if there is one, on what a source field has
abbrev pub condition_failures : declared.Sources → FailureSite → Reference → Option Condition → List Failure
condition_failures s at from chosen = reached.condition_failures (sources_value s) (mark at) (reference from) (condition_some chosen)
