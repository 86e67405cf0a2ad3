-- The rules on target fields: how often they come (cardinality 4, usage R 5, RE 8 and X 11), and what is in them.
use Rattle.std.specs.Prelude.{ℕ, Bool, true, false, ◌&&◌, not, nat_lt, if◌then◌else◌, List, [], ◌++◌, flat_map, Option, Some, None}
use Rattle.gw_profile.specs.declared.shape.Usage.{Usage}
use Rattle.gw_profile.specs.declared.shape.Card.{Card}
use Rattle.gw_profile.specs.declared.shape.Usage.TheVariants.{RE}
use Rattle.gw_profile.specs.Shapes.{FieldValue, ProfileValue}
use Rattle.gw_validate.specs.Breaches.{is_forbidden}
use Rattle.gw_resolve.specs.Intervals.{Interval, is_never, is_within}
use Rattle.gw_resolve.specs.Resolved.{Rule, rule_of}
use Rattle.gw_resolve.specs.Failures.{Mark, Failure, fails}
use Rattle.gw_resolve.specs.Seen.{saturated}
use Rattle.gw_leaves.specs.Leaves.{Sources}
use Rattle.gw_leaves.specs.Counts.{rule_count}
use Rattle.gw_leaves.specs.Components.{field_mark, making_failures, rule_lookups}

-- ---- how often something comes

abbrev pub is_expected : Usage → Bool
is_expected RE = true
is_expected usage = false

-- what comes so often, as the program counts it, and whether nothing gives it
abbrev pub counted : Bool → Interval → Mark → Mark
counted is_missing count mark = record mark { missing = is_missing; count = Some (saturated count) }

abbrev pub often_failures : Mark → Interval → Usage → Card → Bool → List Failure
often_failures mark count usage card is_missing =
    fails 4 (counted is_missing count mark) (not (is_forbidden usage) && not (is_within count.greatest card.max))
    ++ fails 5 (counted is_missing count mark) (nat_lt count.least card.min)
    ++ fails 8 (counted is_missing count mark) (is_expected usage && is_missing)
    ++ fails 11 (counted is_missing count mark) (is_forbidden usage && not (is_never count.greatest))

-- ---- a field

-- what its rule gives, where it gives something
abbrev pub content_failures : Sources → ProfileValue → FieldValue → Option Rule → List Failure
content_failures s to target None = []
content_failures s to target (Some r) =
    if is_never (rule_count s (Some r)).greatest then [] else making_failures s to (field_mark target.number r.line) r.making target

-- the line of the rule, or of the segment that should hold one
abbrev pub line_of_rule : ℕ → Option Rule → ℕ
line_of_rule holder None = holder
line_of_rule holder (Some r) = r.line

abbrev pub has_no_rule : Option Rule → Bool
has_no_rule None = true
has_no_rule (Some r) = false

abbrev pub count_failures : ℕ → Interval → FieldValue → Option Rule → List Failure
count_failures holder count target rule =
    often_failures (field_mark target.number (line_of_rule holder rule)) count target.usage target.card (has_no_rule rule)

-- of a target field, in a segment that an item at this line gives by these rules
abbrev pub field_failures : Sources → ProfileValue → ℕ → List Rule → FieldValue → List Failure
field_failures s to holder rules target =
    count_failures holder (rule_count s (rule_of rules target.number)) target (rule_of rules target.number)
    ++ content_failures s to target (rule_of rules target.number)

-- ---- a segment

-- of a target segment with these fields, which an item at this line gives by these rules
abbrev pub segment_failures : Sources → ProfileValue → ℕ → List Rule → List FieldValue → List Failure
segment_failures s to holder rules fields =
    flat_map (field_failures s to holder rules) fields ++ flat_map (rule_lookups s) rules
