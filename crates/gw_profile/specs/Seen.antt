-- Parts of the program, without where they lie in memory.
use Rattle.std.specs.Prelude.{◌≡◌, ℕ, if◌then◌else◌, List, [], ◌∷◌, ◌++◌, map, reverse, Option, None, Some, false}
use Rattle.gw_profile.specs.WellFormed.{table_names}
use Rattle.gw_lines.specs.Grammar.{AllTaken}
use Rattle.gw_profile.specs.declared.shape.Count.{Count}
use Rattle.gw_profile.specs.declared.shape.SubShape.{SubShape}
use Rattle.gw_profile.specs.declared.shape.CompShape.{CompShape}
use Rattle.gw_profile.specs.declared.shape.FieldShape.{FieldShape}
use Rattle.gw_profile.specs.declared.node.SegNode.{SegNode}
use Rattle.gw_profile.specs.declared.node.Node.{Node, Seg, Group', Row_of-Node, end_of-Node, more_of-Node}
use Rattle.std.specs.Option.{option_map}
use denote.Ref.{Bor}
use Rattle.gw_profile.specs.declared.form.Line as declared
use Rattle.gw_profile.specs.declared.context as Held
use Rattle.gw_profile.specs.declared.reader.ReaderState.{ReaderState}
use Rattle.gw_profile.specs.Fault as Fault
use Rattle.std.specs.Global.{Vec}
use Rattle.indexmap.specs.IndexSet.{IndexSet}
use Rattle.gw_profile.specs.Shapes.{TableValue, SubValue, CompValue, FieldValue, SegmentValue, Forest, nothing, segment, group, ProfileValue}
use Rattle.gw_profile.specs.Line as Spec
use Rattle.gw_profile.specs.declared.form.LeafOptions as Leaf

abbrev pub now : Option (Bor (List ℕ)) → Option (List ℕ)
now found = option_map (λ bytes. bytes.now) found

abbrev pub leaf : Leaf.LeafOptions → Spec.Leaf
leaf l = record { len = l.len; table = now l.table }

abbrev pub leaf_of : Option Leaf.LeafOptions → Option Spec.Leaf
leaf_of l = option_map leaf l

abbrev pub line : declared.Line → Spec.Line
line (declared.TheVariants.Begins name) = Spec.Begins name.now
line (declared.TheVariants.Table name values) = Spec.Table name.now (map (λ v. v.now) values.items)
line (declared.TheVariants.Segment name label renamed usage card) = Spec.Segment name label.now renamed usage card
line (declared.TheVariants.Field number usage card l) = Spec.Field number usage card (leaf_of l)
line (declared.TheVariants.Comp number usage l) = Spec.Comp number usage (leaf_of l)
line (declared.TheVariants.Sub number usage l) = Spec.Sub number usage (leaf_of l)
line (declared.TheVariants.Group at label usage card) = Spec.Group at label.now usage card
line declared.TheVariants.End = Spec.End
line declared.TheVariants.Counts = Spec.Counts

abbrev pub sub : SubShape → SubValue
sub s = record { number = s.number; usage = s.usage; len = s.len; table = option_map (λ t. t.items) s.table }

abbrev pub comp : CompShape → CompValue
comp c = record { number = c.number; usage = c.usage; subs = map sub c.subs.items }

abbrev pub field : FieldShape → FieldValue
field f = record { number = f.number; usage = f.usage; card = f.card; comps = map comp f.comps.items }

abbrev pub segment_value : SegNode → SegmentValue
segment_value s = record { name = s.name; label = s.label.items; usage = s.usage; card = s.card; fields = map field s.fields.items }

abbrev mutual
  -- a node with the nodes behind it
  pub node_forest : Node → Forest → Forest
  node_forest (Seg s) rest = segment (segment_value s) rest
  node_forest (Group' label usage card shape nodes) rest =
      group (record { label = label.items; usage = usage; card = card }) (row_forest nodes) rest

  pub row_forest : {n : _} → Row_of-Node n → Forest
  row_forest end_of-Node = nothing
  row_forest (more_of-Node node rest) = node_forest node (row_forest rest)

abbrev pub forest : List Node → Forest
forest [] = nothing
forest (node ∷ rest) = node_forest node (forest rest)

abbrev pub items_of : Option (Vec ℕ) → Option (List ℕ)
items_of v = option_map (λ w. w.items) v

-- a table under its name
abbrev pub table : Vec ℕ × List (List ℕ) → TableValue
table t = record { name = t.0.items; values = t.1 }

-- the lines, the last first
abbrev pub above : List declared.Line → List Spec.Line
above lines = reverse (map line lines)

abbrev pub now_all : List (Bor (List ℕ)) → List (List ℕ)
now_all all = map (λ bytes. bytes.now) all

abbrev pub parent : Option Held.Parent.Parent → Option Fault.Parent
parent p = option_map (λ q. record { shut = q.shut; least = q.least; last = q.last }) p

abbrev pub parents : Held.Parents.Parents → Fault.Parents
parents p = record { segment = parent p.segment; field = parent p.field; comp = parent p.comp }

-- the labels of the levels around, the nearest first
abbrev pub outer_labels : {S : Type 0} → List (IndexSet (Bor (List ℕ)) S) → List (List (List ℕ))
outer_labels outer = reverse (map (λ v. now_all v.keys) outer)

abbrev pub levels : Held.Levels.Levels → Fault.Levels
levels l = record { labels = now_all l.labels.keys; outer = outer_labels l.outer.items }

-- the table of a table line, where no value stands twice
abbrev pub made : Spec.Line → Option (List (List ℕ))
made (Spec.Table name values) = if Fault.has_repeat values then None else Some values
made line = None

-- the tables, with that of a table line
abbrev pub with_table : List TableValue → Spec.Line → List TableValue
with_table tables (Spec.Table name values) = tables ++ record { name = name; values = values } ∷ []
with_table tables line = tables

-- the tables of these lines, the last line first
abbrev pub kept : List Spec.Line → List TableValue
kept [] = []
kept (line ∷ above) = with_table (kept above) line

-- a table line gives a table that is new
abbrev pub IsNewTable : List TableValue → Spec.Line → Type 0
IsNewTable tables (Spec.Table name values) = (Fault.is_among name (table_names tables) ≡ false) × (Fault.has_repeat values ≡ false)
IsNewTable tables line = Unit {0}

-- a segment or group line gives a label that is new at its level
abbrev pub IsNewLabel : List (List ℕ) → Spec.Line → Type 0
IsNewLabel labels (Spec.Segment name label renamed usage card) = Fault.is_among label labels ≡ false
IsNewLabel labels (Spec.Group at label usage card) = Fault.is_among label labels ≡ false
IsNewLabel labels line = Unit {0}

abbrev pub ParentsFollow : Held.Parents.Parents → Held.Parents.Parents → Spec.Line → Type 0
ParentsFollow old new line = (above : List Spec.Line) → parents old ≡ Fault.parents above → parents new ≡ Fault.parents (line ∷ above)

abbrev pub NamesFollow : List TableValue → List TableValue → Spec.Line → Type 0
NamesFollow old new line = (above : List Spec.Line) → table_names old ≡ Fault.tables above → table_names new ≡ Fault.tables (line ∷ above)

abbrev pub LevelsFollow : Held.Levels.Levels → Held.Levels.Levels → Spec.Line → Type 0
LevelsFollow old new line = (above : List Spec.Line) → levels old ≡ Fault.levels above → levels new ≡ Fault.levels (line ∷ above)

-- what is kept beside the lines agrees with them
pub record Agrees (held : Held.Parents.Parents) (tables : List TableValue) (labels : Held.Levels.Levels) (lines : List Spec.Line) : Type 0 where
  pub has_parents : parents held ≡ Fault.parents lines
  pub has_names : table_names tables ≡ Fault.tables lines
  pub has_tables : tables ≡ kept lines
  pub has_levels : levels labels ≡ Fault.levels lines
  pub taken : AllTaken Fault.grammar lines

-- the lines that a reader holds, the last first
abbrev pub said : ReaderState → List Spec.Line
said a = above a.lines.items

abbrev pub Agreed : ReaderState → Type 0
Agreed a = Agrees a.parents (map table a.tables.entries) a.levels (said a)

-- a profile, with its borrowed nodes
pub record Contents : Type 0 where
  pub name : List ℕ
  pub count : Count
  pub tables : List TableValue
  pub nodes : List Node

abbrev pub profile_value : Contents → ProfileValue
profile_value p = record { name = p.name; count = p.count; tables = p.tables; nodes = forest p.nodes }
