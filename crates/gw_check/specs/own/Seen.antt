-- The failures of the definitions, of parts as the program holds them.
use Rattle.std.specs.Prelude.{ℕ, ◌&&◌, not, nat_lt, List, ◌++◌, map, Option}
use denote.Ref.{Bor}
use Rattle.gw_profile.specs.declared.shape.FieldShape.{FieldShape}
use Rattle.gw_profile.specs.Shapes.{FieldValue}
use Rattle.gw_profile.specs.declared.node.Node.{Node}
use Rattle.gw_profile.specs.Seen as profiles
use Rattle.gw_profile.specs.Seen.{field as field_value, forest, profile_value}
use Rattle.gw_maplang.specs.Seen as maps
use Rattle.gw_maplang.specs.Seen.{map_value}
use Rattle.gw_maplang.specs.Shapes.{TableValue}
use Rattle.gw_validate.specs.Breaches.{is_forbidden}
use Rattle.gw_resolve.specs.declared.resolved.Rule.{Rule}
use Rattle.gw_resolve.specs.declared.resolved.Item.{Item}
use Rattle.gw_resolve.specs.declared.resolved.LeftOut.{LeftOut}
use Rattle.gw_resolve.specs.declared.named.ResolvedMap.{ResolvedMap}
use Rattle.gw_resolve.specs.Failures.{Mark as Told, Failure, fails}
use Rattle.gw_resolve.specs.Resolved.{FieldCondition}
use Rattle.gw_resolve.specs.Intervals.{Interval, is_never, is_within}
use Rattle.gw_resolve.specs.Seen.{mark, all_items, left_out}
use Rattle.gw_leaves.specs.declared.sources.Sources.{Sources}
use Rattle.gw_leaves.specs.Context.{ContextValue}
use Rattle.gw_leaves.specs.Uses.{sources_value, target_value, map_tables, some_rule, rules_value, rule_count}
use Rattle.gw_check.specs.declared.often.Asked.{Asked}
use Rattle.gw_check.specs.Answers.{unlabelled}
use Rattle.gw_check.specs.Checked as checked
use Rattle.gw_check.specs.Fields as spec
use Rattle.gw_check.specs.Reads as reads
use Rattle.gw_check.specs.Reached as reached
use Rattle.gw_check.specs.Typed as typed

-- ---- how often something comes

-- of what is asked, where it comes so often
abbrev pub often_failures : Asked → Interval → List Failure
often_failures asked count = spec.often_failures (mark asked.mark) count asked.usage asked.card asked.is_missing

-- the same at a mark, by this count
abbrev pub capped_failures : Told → Asked → Interval → List Failure
capped_failures at asked count =
    fails 4 at (not (is_forbidden asked.usage) && not (is_within count.greatest asked.card.max))
    ++ fails 5 at (nat_lt count.least asked.card.min)
    ++ fails 8 at (spec.is_expected asked.usage && asked.is_missing)
    ++ fails 11 at (is_forbidden asked.usage && not (is_never count.greatest))

-- ---- a field

-- of what its rule gives, where it gives something
abbrev pub content_failures : Sources → FieldShape → Option (Bor Rule) → List Failure
content_failures s target r = spec.content_failures (sources_value s) (target_value s) (field_value target) (some_rule (map_tables s) r)

-- of a field with its rule, in a segment that an item at this line gives
abbrev pub failures_by : Sources → ℕ → FieldShape → Option (Bor Rule) → List Failure
failures_by s holder target r =
    spec.count_failures holder (rule_count s r) (field_value target) (some_rule (map_tables s) r) ++ content_failures s target r

-- of a field in a segment that an item at this line gives by these rules
abbrev pub field_failures : Sources → ℕ → List Rule → FieldValue → List Failure
field_failures s holder rules = spec.field_failures (sources_value s) (target_value s) holder (rules_value s rules)

-- of all fields of the segment
abbrev pub segment_failures : Sources → ℕ → List Rule → List FieldValue → List Failure
segment_failures s holder rules = spec.segment_failures (sources_value s) (target_value s) holder (rules_value s rules)

-- of the condition of an item at this line, in what it walks
abbrev pub asked_failures : Sources → ℕ → Option FieldCondition → List Failure
asked_failures s = reached.asked_failures (sources_value s)

-- ---- a map

-- of the rules from the fourth on
abbrev pub failures : ContextValue → List Item → List LeftOut → List Failure
failures s items drops = typed.failures (profile_value s.source) (profile_value s.target) (unlabelled (map_value s.map) items drops)

-- the same of the map without labels
abbrev pub resolved_failures : ContextValue → ResolvedMap → List Failure
resolved_failures s named = failures s named.items.items named.drops.items

-- of all rules
abbrev pub all_failures : profiles.Contents → profiles.Contents → maps.Contents → List Failure
all_failures source target map = checked.all_failures (profile_value source) (profile_value target) (map_value map)

-- ---- what is passed over

-- of these nodes, by the items and drops of a map with these tables
abbrev pub passed_over : List TableValue → List Item → List LeftOut → List Node → List reads.SourceField
passed_over tables items drops nodes = reads.passed_over (all_items tables items) (map left_out drops) (forest nodes)

-- of the source of a map
abbrev pub unread : ContextValue → List Item → List LeftOut → List reads.SourceField
unread s items drops = passed_over s.map.tables items drops s.source.nodes

-- the same of the map without labels
abbrev pub resolved_unread : ContextValue → ResolvedMap → List reads.SourceField
resolved_unread s named = unread s named.items.items named.drops.items

-- none where labels can't be looked up
abbrev pub all_unread : profiles.Contents → profiles.Contents → maps.Contents → List reads.SourceField
all_unread source target map = checked.unread (profile_value source) (profile_value target) (map_value map)
