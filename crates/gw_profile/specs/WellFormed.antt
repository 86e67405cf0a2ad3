-- What every profile keeps (HL7 v2.5.1 chapter 2, 2.12: message profiles, usage and cardinality of their elements).
use Rattle.std.specs.Prelude.{◌≡◌, ℕ, suc, ◌≤◌, true, List, [], ◌∷◌, map, max, Some, None, codes, IfSome}
use Rattle.std.specs.List.{AllByRecursion}
use Rattle.gw_er7.specs.Names as Names
use Rattle.gw_lines.specs.Spelled.{is_name}
use Rattle.gw_lines.specs.Values.{is_value}
use Rattle.gw_profile.specs.declared.shape.Usage.{Usage}
use Rattle.gw_profile.specs.declared.shape.Usage.TheVariants.{R, RE, O, X}
use Rattle.gw_profile.specs.declared.shape.Card.{Card}
use Rattle.gw_profile.specs.Among.{Among, Distinct}
use Rattle.gw_profile.specs.Fault.{least_field}
use Rattle.gw_profile.specs.Shapes.{SubValue, CompValue, FieldValue, SegmentValue, GroupValue, TableValue, Forest, nothing, segment, group, ProfileValue}
use Rattle.gw_profile.specs.Deterministic.{AtMost, NoName, Determined}

-- ---- one element

-- usage and cardinality agree: R is there at least once, RE and O may be left out, X never comes; min is at most max
abbrev pub Agrees : Usage → Card → Type 0
Agrees R card = (1 ≤ card.min) × AtMost card.max card.min
Agrees RE card = (card.min ≡ 0) × AtMost card.max 1
Agrees O card = (card.min ≡ 0) × AtMost card.max 1
Agrees X card = (card.min ≡ 0) × (card.max ≡ Some 0)

-- counts are at most 9999
abbrev pub Counted : Card → Type 0
Counted card = (card.min ≤ 9999) × IfSome card.max (λ most. most ≤ 9999)

-- the numbers rise, from at least low to at most high
abbrev pub Rising : ℕ → ℕ → List ℕ → Type 0
Rising low high [] = Unit {0}
Rising low high (n ∷ numbers) = (low ≤ n) × (n ≤ high) × Rising (suc n) high numbers

abbrev pub sub_numbers : List SubValue → List ℕ
sub_numbers = map (λ (s : SubValue). s.number)

abbrev pub comp_numbers : List CompValue → List ℕ
comp_numbers = map (λ (c : CompValue). c.number)

abbrev pub field_numbers : List FieldValue → List ℕ
field_numbers = map (λ (f : FieldValue). f.number)

-- a subcomponent; a forbidden one has no length and no table
pub record LawfulSub (tables : List (List ℕ)) (s : SubValue) : Type 0 where
  pub bare : s.usage ≡ X → (s.len ≡ None) × (s.table ≡ None)
  pub measured : IfSome s.len (λ most. (1 ≤ most) × (most ≤ 999999))
  pub known : IfSome s.table (λ name. Among name tables)

-- a component; nothing stands below a forbidden one
pub record LawfulComp (tables : List (List ℕ)) (c : CompValue) : Type 0 where
  pub bare : c.usage ≡ X → c.subs ≡ []
  pub rising : Rising 1 99 (sub_numbers c.subs)
  pub each : AllByRecursion (LawfulSub tables) c.subs

pub record LawfulField (tables : List (List ℕ)) (f : FieldValue) : Type 0 where
  pub agrees : Agrees f.usage f.card
  pub counted : Counted f.card
  pub bare : f.usage ≡ X → f.comps ≡ []
  pub rising : Rising 1 99 (comp_numbers f.comps)
  pub each : AllByRecursion (LawfulComp tables) f.comps

-- a segment; fields 1 and 2 of MSH are its delimiters
pub record LawfulSegment (tables : List (List ℕ)) (s : SegmentValue) : Type 0 where
  pub named : Names.is_name s.name ≡ true
  pub labelled : is_name s.label ≡ true
  pub agrees : Agrees s.usage s.card
  pub counted : Counted s.card
  pub bare : s.usage ≡ X → s.fields ≡ []
  pub rising : Rising (least_field s.name) 999 (field_numbers s.fields)
  pub each : AllByRecursion (LawfulField tables) s.fields

-- the labels of the nodes of one level
abbrev pub labels : Forest → List (List ℕ)
labels nothing = []
labels (segment s rest) = s.label ∷ labels rest
labels (group g nodes rest) = g.label ∷ labels rest

-- a group with its nodes; it isn't forbidden
pub record LawfulGroup (g : GroupValue) (nodes : Forest) : Type 0 where
  pub labelled : is_name g.label ≡ true
  pub agrees : Agrees g.usage g.card
  pub counted : Counted g.card
  pub allowed : g.usage ≡ X → ⊥
  pub distinct : Distinct (labels nodes)

-- a table; it has a value, and each is a canonical text that isn't empty
pub record LawfulTable (t : TableValue) : Type 0 where
  pub named : is_name t.name ≡ true
  pub some : t.values ≡ [] → ⊥
  pub each : AllByRecursion (λ value. is_value value ≡ true) t.values
  pub distinct : Distinct t.values

-- ---- all of a forest

abbrev pub EachSegment : (SegmentValue → Type 0) → Forest → Type 0
EachSegment P nothing = Unit {0}
EachSegment P (segment s rest) = P s × EachSegment P rest
EachSegment P (group g nodes rest) = EachSegment P nodes × EachSegment P rest

abbrev pub EachGroup : (GroupValue → Forest → Type 0) → Forest → Type 0
EachGroup P nothing = Unit {0}
EachGroup P (segment s rest) = EachGroup P rest
EachGroup P (group g nodes rest) = P g nodes × EachGroup P nodes × EachGroup P rest

-- how deep groups nest
abbrev pub depth : Forest → ℕ
depth nothing = 0
depth (segment s rest) = depth rest
depth (group g nodes rest) = max (suc (depth nodes)) (depth rest)

-- 1..1
abbrev pub once : Card
once = record { min = 1; max = Some 1 }

-- the segment MSH R 1..1
pub record IsHeader (s : SegmentValue) : Type 0 where
  pub name : s.name ≡ codes "MSH"
  pub label : s.label ≡ codes "MSH"
  pub usage : s.usage ≡ R
  pub card : s.card ≡ once

-- a segment that has MSH neither as its name nor as its label
abbrev pub IsOther : SegmentValue → Type 0
IsOther s = (s.name ≡ codes "MSH" → ⊥) × (s.label ≡ codes "MSH" → ⊥)

-- the first node is the header, and MSH stands nowhere else
abbrev pub Headed : Forest → Type 0
Headed nothing = ⊥
Headed (segment s rest) = IsHeader s × EachSegment IsOther rest
Headed (group g nodes rest) = ⊥

abbrev pub table_names : List TableValue → List (List ℕ)
table_names = map (λ (t : TableValue). t.name)

pub record WellFormed (p : ProfileValue) : Type 0 where
  pub named : is_name p.name ≡ true
  pub tables : AllByRecursion LawfulTable p.tables
  pub tables_distinct : Distinct (table_names p.tables)
  pub headed : Headed p.nodes
  pub segments : EachSegment (LawfulSegment (table_names p.tables)) p.nodes
  pub groups : EachGroup LawfulGroup p.nodes
  pub distinct : Distinct (labels p.nodes)
  pub nested : depth p.nodes ≤ 8
  pub determined : Determined p.nodes NoName
