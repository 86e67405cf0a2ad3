-- What the program holds of the lines of a map, without where it lies in memory.
use Rattle.std.specs.Prelude.{◌≡◌, ◌++◌, ℕ, List, [], ◌∷◌, flat_map, map, Option, option_map, unwrap_or, Result, IfOk, OnOk}
use Rattle.std.specs.Global.{Vec}
use denote.Ref.{Bor}
use Rattle.gw_maplang.specs.Shapes.{TableValue, table_of}
use Rattle.gw_resolve.specs.Naming.{no_rows}
use Rattle.gw_resolve.specs.Resolved.{Reference, Alternative, SegmentItem}
use Rattle.gw_resolve.specs.Positions.{Position, positions}
use Rattle.gw_resolve.specs.Seen.{reference, place, some_condition, alternative, at_leaf, rule}
use Rattle.gw_resolve.specs.declared.resolved.Alternative as the_others
use Rattle.gw_resolve.specs.declared.resolved.At as ats
use Rattle.gw_resolve.specs.declared.resolved.ScopePath.{ScopePath}
use Rattle.gw_resolve.specs.declared.resolved.SegmentItem as segments
use Rattle.gw_resolve.specs.declared.resolved.Reference as references
use Rattle.gw_check.specs.Sites.{Spot, Origin, unsaid, text, read, repeated, given, cut, spot_at, Site, site_of, other_sites, leaf_sites}
use Rattle.gw_check.specs.declared.segments.Target.{Target}
use Rattle.gw_check.specs.declared.site.ElementPath as spots
use Rattle.gw_check.specs.declared.site.Origin as origins
use Rattle.gw_check.specs.declared.site.Site as declared

abbrev pub spot : spots.ElementPath → Spot
spot s = record { at = s.at.items; walked = s.walked; field = s.field; comp = s.comp; sub = s.sub }

abbrev pub origin : List TableValue → origins.Origin → Origin
origin tables origins.TheVariants.Unsaid = unsaid
origin tables (origins.TheVariants.Text octets) = text octets.items
origin tables (origins.TheVariants.Read from) = read (spot from)
origin tables (origins.TheVariants.Repeated from) = repeated (spot from)
origin tables (origins.TheVariants.LookedUp name from) = given (unwrap_or (table_of name.items tables) no_rows) (spot from)
origin tables (origins.TheVariants.Dated digits from) = cut digits (spot from)

-- the origin that was made, if any, whatever the map's tables are
abbrev pub OriginIs : {E : Type 0} → Result origins.Origin E → (List TableValue → Origin) → Type 0
OriginIs result made = IfOk result (λ o. (tables : List TableValue) → origin tables o ≡ made tables)

abbrev pub site : List TableValue → declared.Site → Site
site tables s = record { line = s.line; target = spot s.target; origin = origin tables s.origin }

abbrev pub all_sites : List TableValue → List declared.Site → List Site
all_sites tables = map (site tables)

-- what a line makes
abbrev pub made : ℕ → Target → Origin → List Site
made line t origin = site_of line t.at.now t.field t.part.comp t.part.sub origin ∷ []

-- what the line of a leaf makes of a place
abbrev pub other_made : List Position → Option Reference → Target → Alternative → List Site
other_made scope walked place = other_sites scope walked place.at.now place.field place.part.comp place.part.sub

abbrev pub some_reference : Option (Bor references.Reference) → Option Reference
some_reference from = option_map (λ b. reference b.now) from

-- the field of this number at a place, 0 for the segment or group
abbrev pub read_at : List (Vec ℕ) → ScopePath → ℕ → Origin
read_at scope from field = read (spot_at (positions scope) (place from) field 0 0)

-- what the lines of these leaves make of a place
abbrev pub others_made : List TableValue → List (Vec ℕ) → Option (Bor references.Reference) → Target → List the_others.Alternative → List Site
others_made tables scope walked t others = flat_map (other_made (positions scope) (some_reference walked) t) (map (alternative tables) others)

-- what the leaves of a field make
abbrev pub leaves_made : List TableValue → List (Vec ℕ) → Option (Bor references.Reference) → Target → List ats.At → List Site
leaves_made tables scope walked t leaves = flat_map (leaf_sites (positions scope) (some_reference walked) t.at.now t.field) (map (at_leaf tables) leaves)

abbrev pub some_site : List TableValue → Option (Bor declared.Site) → Option Site
some_site tables s = option_map (λ b. site tables b.now) s

abbrev pub segment_item : List TableValue → segments.SegmentItem → SegmentItem
segment_item tables s = record { line = s.line; child = s.child; place = option_map place s.place; condition = some_condition s.condition; rules = map (rule tables) s.rules.items }

-- these were found as well
abbrev pub Adds : List TableValue → List declared.Site → List declared.Site → List Site → Type 0
Adds tables old new more = all_sites tables new ≡ all_sites tables old ++ more

-- the same of a call that went through, whatever the map's tables are
abbrev pub AddsAll : {X E : Type 0} → Result X E → List declared.Site → List declared.Site → (List TableValue → List Site) → Type 0
AddsAll result old new more = OnOk result ((tables : List TableValue) → Adds tables old new (more tables))
