-- The profile that lines spell.
use Rattle.std.specs.Prelude.{ℕ, List, [], ◌∷◌, Option, Some, None, unwrap_or, bytes_eq, if◌then◌else◌}
use Rattle.gw_profile.specs.declared.shape.Usage as declared
use Rattle.gw_profile.specs.declared.shape.Usage.TheVariants.{R, O}
use Rattle.gw_profile.specs.declared.shape.Count.{Count}
use Rattle.gw_profile.specs.declared.shape.Count.TheVariants.{Octets, Characters}
use Rattle.gw_profile.specs.Shapes.{SubValue, CompValue, FieldValue, SegmentValue, GroupValue, TableValue, Forest, nothing, segment, group, ProfileValue}
use Rattle.gw_profile.specs.Line.{Line, Leaf, Begins, Table, Segment, Field, Comp, Sub, Group, End, Counts}

-- ---- what lines spell, from the first on

-- the one subcomponent that a leaf stands for, and the one component
abbrev pub leaf_sub : Leaf → SubValue
leaf_sub leaf = record { number = 1; usage = R; len = leaf.len; table = leaf.table }

abbrev pub leaf_comp : Leaf → CompValue
leaf_comp leaf = record { number = 1; usage = R; subs = leaf_sub leaf ∷ [] }

abbrev pub subs_of : Option Leaf → List SubValue → List SubValue
subs_of None below = below
subs_of (Some leaf) below = leaf_sub leaf ∷ []

abbrev pub comps_of : Option Leaf → List CompValue → List CompValue
comps_of None below = below
comps_of (Some leaf) below = leaf_comp leaf ∷ []

abbrev pub sub_of : ℕ → Option declared.Usage → Option Leaf → SubValue
sub_of number usage None = record { number = number; usage = unwrap_or usage O; len = None; table = None }
sub_of number usage (Some leaf) = record { number = number; usage = unwrap_or usage O; len = leaf.len; table = leaf.table }

-- the parts that the first of these lines may belong to: the subcomponents of a component, the components of a field, the fields of a segment
pub record Parts : Type 0 where
  pub subs : List SubValue
  pub comps : List CompValue
  pub fields : List FieldValue

abbrev pub no_parts : Parts
no_parts = record { subs = []; comps = []; fields = [] }

-- A line of another kind closes what is open.
abbrev pub parts : List Line → Parts
parts [] = no_parts
parts (Field number usage card leaf ∷ below) =
    record { subs = []; comps = []; fields = record { number = number; usage = unwrap_or usage O; card = card; comps = comps_of leaf (parts below).comps } ∷ (parts below).fields }
parts (Comp number usage leaf ∷ below) =
    record { subs = []; comps = record { number = number; usage = unwrap_or usage O; subs = subs_of leaf (parts below).subs } ∷ (parts below).comps; fields = (parts below).fields }
parts (Sub number usage leaf ∷ below) =
    record { subs = sub_of number usage leaf ∷ (parts below).subs; comps = (parts below).comps; fields = (parts below).fields }
parts (line ∷ below) = no_parts

-- the nodes up to the end of the group that is open above these lines, and behind that end, and so on
pub record Nodes : Type 0 where
  pub here : Forest
  pub behind : List Forest

abbrev pub with_segment : SegmentValue → Nodes → Nodes
with_segment s nodes = record { here = segment s nodes.here; behind = nodes.behind }

abbrev pub next : List Forest → Forest
next [] = nothing
next (f ∷ behind) = f

abbrev pub past : List Forest → List Forest
past [] = []
past (f ∷ behind) = behind

abbrev pub with_group : GroupValue → Nodes → Nodes
with_group g nodes = record { here = group g nodes.here (next nodes.behind); behind = past nodes.behind }

abbrev pub nodes : List Line → Nodes
nodes [] = record { here = nothing; behind = [] }
nodes (Segment name label renamed usage card ∷ below) =
    with_segment (record { name = name; label = label; usage = unwrap_or usage O; card = card; fields = (parts below).fields }) (nodes below)
nodes (Group at label usage card ∷ below) = with_group (record { label = label; usage = unwrap_or usage O; card = card }) (nodes below)
nodes (End ∷ below) = record { here = nothing; behind = (nodes below).here ∷ (nodes below).behind }
nodes (line ∷ below) = nodes below

abbrev pub tables : List Line → List TableValue
tables [] = []
tables (Table name values ∷ below) = record { name = name; values = values } ∷ tables below
tables (line ∷ below) = tables below

-- the name that the first line gives
abbrev pub name_of : List Line → List ℕ
name_of [] = []
name_of (Begins name ∷ below) = name
name_of (line ∷ below) = []

-- what lengths count where this is the second line
abbrev pub said_count : Line → Count
said_count Counts = Characters
said_count line = Octets

-- what the lengths of these lines count: octets, unless the second line says characters
abbrev pub count_of : List Line → Count
count_of [] = Octets
count_of (first ∷ []) = Octets
count_of (first ∷ next ∷ below) = said_count next

abbrev pub profile : List Line → ProfileValue
profile lines = record { name = name_of lines; count = count_of lines; tables = tables lines; nodes = (nodes lines).here }

-- the values of the table of this name
abbrev pub table_of : List ℕ → List TableValue → Option (List (List ℕ))
table_of name [] = None
table_of name (t ∷ tables) = if bytes_eq name t.name then Some t.values else table_of name tables
