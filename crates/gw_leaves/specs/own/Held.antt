-- What is read at places and what it is read for, as the program holds it.
use Rattle.std.specs.Prelude.{ℕ, Bool, true, List, [], map, Option, Some, None, unwrap_or}
use denote.Ref.{Bor}
use Rattle.gw_profile.specs.declared.shape.SubShape.{SubShape}
use Rattle.gw_profile.specs.Fault.{is_among}
use Rattle.gw_profile.specs.Numbered.{some_sub}
use Rattle.gw_profile.specs.Shapes.{TableValue}
use Rattle.gw_profile.specs.Value.{table_of}
use Rattle.gw_profile.specs.Seen.{field, profile_value}
use Rattle.gw_maplang.specs.Seen.{now}
use Rattle.gw_resolve.specs.declared.resolved.Alternative as the_others
use Rattle.gw_resolve.specs.declared.resolved.At as ats
use Rattle.gw_resolve.specs.declared.resolved.Reference as references
use Rattle.gw_resolve.specs.declared.resolved.Source as sources_of
use Rattle.gw_resolve.specs.Intervals.{Interval}
use Rattle.gw_resolve.specs.Places.{Known}
use Rattle.gw_resolve.specs.Resolved.{Alternative, At}
use Rattle.gw_resolve.specs.Seen.{interval, saturated, reference, source, alternative, at_leaf}
use Rattle.gw_leaves.specs.declared.given.LeafSource.{LeafSource}
use Rattle.gw_leaves.specs.declared.known.Known as the_known
use Rattle.gw_leaves.specs.declared.sources.Sources.{Sources}
use Rattle.gw_leaves.specs.declared.shape.Presence.{Presence}
use Rattle.gw_leaves.specs.Leaves.{Values, Shape, sub_values, source_shape, at_presence}
use Rattle.gw_leaves.specs.Counts as counts
use Rattle.gw_leaves.specs.Context.{ContextValue}
use Rattle.gw_leaves.specs.Uses.{sources_value, map_tables}
use Rattle.gw_leaves.specs.own.Comparisons.{rowed}

abbrev pub leaves_value : Sources → List ats.At → List At
leaves_value s leaves = map (at_leaf (map_tables s)) leaves

abbrev pub others_value : Sources → List the_others.Alternative → List Alternative
others_value s others = map (alternative (map_tables s)) others

-- what is known of the text that a source gives
abbrev pub shape_at : Sources → sources_of.Source → Shape
shape_at s from = source_shape (sources_value s) (source from)

-- whether a place has a text
abbrev pub presence_at : Sources → ats.At → Presence
presence_at s a = at_presence (sources_value s) (at_leaf (map_tables s) a)

-- how often the source field of a reference comes
abbrev pub field_count : Sources → references.Reference → Interval
field_count s from = counts.field_count (sources_value s) (reference from)

-- what is read of a subcomponent, as it is or looked up
abbrev pub source_values : ContextValue → Option (Bor SubShape) → Values
source_values s sub = sub_values (profile_value s.source) (some_sub sub)

abbrev pub given_texts : ContextValue → LeafSource → Values
given_texts s g = rowed s.map.tables (now g.rows) (source_values s g.sub)

-- the text is a value of the table of this name, if one is named
abbrev pub is_listed : List TableValue → Option (List ℕ) → List ℕ → Bool
is_listed tables None text = true
is_listed tables (Some name) text = is_among text (unwrap_or (table_of name tables) [])

-- ---- the segment at a place

abbrev pub known_value : the_known.Known → Known
known_value k = record { count = interval k.count; fields = map field k.fields.now }

-- the program's counts end at the cap
abbrev pub saturated_known : Known → Known
saturated_known k = record { count = saturated k.count; fields = k.fields }
