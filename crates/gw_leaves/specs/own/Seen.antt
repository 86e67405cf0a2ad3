-- The failures of the definitions, of parts as the program holds them.
use Rattle.std.specs.Prelude.{Bool, ℕ, ◌&&◌, ◌||◌, not, List, ◌++◌, flat_map, Option, Some}
use denote.Ref.{Bor}
use Rattle.gw_profile.specs.declared.shape.SubShape.{SubShape}
use Rattle.gw_profile.specs.declared.shape.FieldShape.{FieldShape}
use Rattle.gw_profile.specs.declared.shape.Count.TheVariants.{Octets}
use Rattle.gw_profile.specs.declared.shape.Usage.{Usage}
use Rattle.gw_profile.specs.Shapes.{SubValue, CompValue}
use Rattle.gw_profile.specs.Seen as profiles
use Rattle.gw_profile.specs.Seen.{sub as sub_value, field as field_value, profile_value}
use Rattle.gw_validate.specs.Breaches.{is_required, is_forbidden}
use Rattle.gw_maplang.specs.Seen.{now}
use Rattle.gw_resolve.specs.declared.resolved.Source.{Source}
use Rattle.gw_resolve.specs.declared.resolved.ResolvedLeaf.{ResolvedLeaf}
use Rattle.gw_resolve.specs.declared.resolved.At.{At}
use Rattle.gw_resolve.specs.declared.resolved.Alternative.{Alternative}
use Rattle.gw_resolve.specs.declared.failure.FailureSite.{FailureSite}
use Rattle.gw_resolve.specs.Failures.{Failure, fails}
use Rattle.gw_resolve.specs.Resolved as resolved
use Rattle.gw_resolve.specs.Seen.{mark, leaf}
use Rattle.gw_leaves.specs.declared.elements.Filling.{Filling}
use Rattle.gw_leaves.specs.declared.elements.Filling.TheVariants.{Copied, Made}
use Rattle.gw_leaves.specs.declared.given.LeafSource.{LeafSource}
use Rattle.gw_leaves.specs.declared.shape.Presence.{Presence}
use Rattle.gw_leaves.specs.declared.sources.Sources.{Sources}
use Rattle.gw_leaves.specs.Components as spec
use Rattle.gw_leaves.specs.Reached as reached
use Rattle.gw_leaves.specs.Leaves.{Values, any, is_always, is_absent, may_be_unlisted, may_be_long}
use Rattle.gw_leaves.specs.Context.{ContextValue}
use Rattle.gw_leaves.specs.Uses.{sources_value, target_value, map_tables}
use Rattle.gw_leaves.specs.own.Held.{given_texts, leaves_value, others_value, shape_at}
use Rattle.gw_profile.specs.Numbered.{some_field, comp_of}
use Rattle.gw_leaves.specs.own.Comparisons.{rowed}

-- ---- usage

-- something required isn't always there, or something forbidden may be
abbrev pub usage_failures : FailureSite → Usage → Presence → List Failure
usage_failures at usage presence =
    fails 5 (mark at) (is_required usage && not (is_always presence)) ++ fails 11 (mark at) (is_forbidden usage && not (is_absent presence))

-- ---- a subcomponent

-- what can stand there has another value than the table's, or is too long
abbrev pub value_failures : ContextValue → FailureSite → Presence → LeafSource → SubShape → List Failure
value_failures context at presence given sub =
    spec.value_failures (profile_value context.target) (mark at) (record { presence = presence; values = given_texts context given }) (sub_value sub)

-- a value may be missing from the table, or be too long
abbrev pub may_break : profiles.Contents → Values → SubShape → Bool
may_break to values sub = may_be_unlisted values (spec.table_values to.tables (sub_value sub)) || may_be_long to.count values sub.len

-- of a target subcomponent, in a component of this number
abbrev pub sub_failures : Sources → FailureSite → Filling → ℕ → SubValue → List Failure
sub_failures s at (Copied from) comp = spec.copied_sub (profile_value s.context.now.source) (target_value s) (mark at) (comp_of (some_field from) comp)
sub_failures s at (Made leaves) comp = spec.made_sub (sources_value s) (mark at) (leaves_value s leaves.now) comp

-- of a target component
abbrev pub comp_failures : Sources → FailureSite → Filling → CompValue → List Failure
comp_failures s at (Copied from) = spec.copied_comp (profile_value s.context.now.source) (target_value s) (mark at) (some_field from)
comp_failures s at (Made leaves) = spec.made_comp (sources_value s) (mark at) (leaves_value s leaves.now)

-- ---- leaves

-- of what a source gives, as it is or looked up in the table of this name
abbrev pub source_failures : Sources → FailureSite → Option (Bor (List ℕ)) → Source → SubShape → List Failure
source_failures s at rows from sub =
    spec.value_failures (target_value s) (mark at)
    (record { presence = (shape_at s from).presence; values = rowed (map_tables s) (now rows) (shape_at s from).values })
    (sub_value sub)

-- of the first digits of a text
abbrev pub dated_failures : profiles.Contents → FailureSite → Presence → ℕ → SubShape → List Failure
dated_failures to at presence most sub =
    spec.value_failures (profile_value to) (mark at) (record { presence = presence; values = any Octets (Some most) }) (sub_value sub)

-- of a leaf, also of a constant
abbrev pub leaf_failures : Sources → FailureSite → ResolvedLeaf → SubShape → List Failure
leaf_failures s at l sub = spec.leaf_failures (sources_value s) (target_value s) (mark at) (leaf (map_tables s) l) (sub_value sub)

-- of one of the leaves of a place
abbrev pub other_failures : Sources → FailureSite → SubShape → resolved.Alternative → List Failure
other_failures s at sub = spec.other_failures (sources_value s) (target_value s) (mark at) (sub_value sub)

-- of a leaf at its place in this target field
abbrev pub made_leaf : Sources → FieldShape → resolved.At → List Failure
made_leaf s target = spec.made_leaf (sources_value s) (target_value s) (field_value target)

-- of a target field
abbrev pub made_field : Sources → FailureSite → List At → FieldShape → List Failure
made_field s at leaves target = spec.made_field (sources_value s) (target_value s) (mark at) (leaves_value s leaves) (field_value target)

-- ---- lookups

-- of a leaf that has to have a row for each text
abbrev pub leaf_lookups : Sources → FailureSite → ResolvedLeaf → List Failure
leaf_lookups s at l = spec.leaf_lookups (sources_value s) (mark at) (leaf (map_tables s) l)

-- of these leaves of a place
abbrev pub other_lookups : Sources → FailureSite → List Alternative → List Failure
other_lookups s at others = flat_map (spec.other_lookups (sources_value s) (mark at)) (others_value s others)

-- of the leaves of this target field
abbrev pub lookups : Sources → ℕ → List At → List Failure
lookups s field leaves = flat_map (spec.lookup_failures (sources_value s) field) (leaves_value s leaves)

-- ---- alternatives

-- of the alternatives in this target field that can't be reached
abbrev pub unreached_failures : Sources → ℕ → List At → List Failure
unreached_failures s field leaves = flat_map (reached.place_failures (sources_value s) field) (leaves_value s leaves)
