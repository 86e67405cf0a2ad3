-- The map that leaves all as it is, is lawful.
use Rattle.std.proofs.Common.{◌≡◌, ℕ, suc, ◌≤◌, inl, inr, Bool, true, false, List, [], ◌∷◌, sym, ap, ◌∙◌, bytes_eq, arith}
use Rattle.std.specs.Prelude.{if◌then◌else◌, Option, Some, Result, Ok, Err, IfOk, codes}
use Rattle.std.specs.List.{AllByRecursion}
use Rattle.std.proofs.lemmas.Slice.Eq.{bytes_eq-Decides}
use Rattle.gw_lines.specs.Spelled.{is_name}
use Rattle.gw_profile.specs.Line.{is_forbidden}
use Rattle.gw_profile.specs.Fault as profile
use Rattle.gw_profile.specs.Shapes as Profile
use Rattle.gw_profile.specs.WellFormed as Formed
use Rattle.gw_profile.specs.declared.node.GroupNode.{GroupNode}
use Rattle.gw_profile.specs.declared.node.Node.{Node, Group}
use Rattle.gw_profile.specs.Seen.{forest, node_forest}
use Rattle.gw_profile.proofs.Facts.{false_not, if_false}
use Rattle.gw_profile.proofs.Rows.{group_forest}
use Rattle.gw_maplang.specs.declared.item.Item.{Item}
use Rattle.gw_maplang.specs.Among.{Among, Distinct}
use Rattle.gw_maplang.specs.Shapes.{Items, RuleValue, segment, group}
use Rattle.gw_maplang.specs.Lawful.{Lawful, least_field, LawfulPath, LawfulWalk, LawfulRule, LawfulItems, rule_fields}
use Rattle.gw_maplang.specs.Identity.{field_rules, copy_rule, walk_all, same_items, identity, with_some, IsSame}

one_label : (label : List ℕ) → is_name label ≡ true → LawfulPath (label ∷ [])
one_label label n = record { some = λ e. cc; each = (n, tt) }

all_walked : (label : List ℕ) → is_name label ≡ true → LawfulWalk (walk_all label)
all_walked label n = record { path = one_label label n; condition = tt }

-- copies of fields whose numbers rise from low on
record Copied (label : List ℕ) (low : ℕ) (rules : List RuleValue) : Type 0 where
  each : AllByRecursion (LawfulRule [] label) rules
  distinct : Distinct (rule_fields rules)
  above : (x : ℕ) → Among x (rule_fields rules) → low ≤ x

none_copied : (label : List ℕ) (low : ℕ) → Copied label low []
none_copied label low = record { each = tt; distinct = tt; above = λ x h. absurd h }

passed : (label : List ℕ) (low n : ℕ) (rules : List RuleValue) → low ≤ n → Copied label (suc n) rules → Copied label low rules
passed label low n rules l h = record { each = h.each; distinct = h.distinct; above = λ x k. let m = h.above x k in omega arith }

one_more : (label : List ℕ) (low n : ℕ) (rules : List RuleValue) → is_name label ≡ true → least_field label ≤ low → low ≤ n → n ≤ 999 → Copied label (suc n) rules → Copied label low (copy_rule label n ∷ rules)
one_more label low n rules named least l m h =
    record {
      each = (((omega arith, m), record { path = one_label label named; field = (omega arith, m) }), h.each);
      distinct = ((λ k. let a = h.above n k in absurd (omega arith)), h.distinct);
      above = λ x. elim [ inl e ↦ omega (arith, e) | inr k ↦ (let a = h.above x k in omega arith) ];
    }

copied : (label : List ℕ) (low : ℕ) (fields : List Profile.FieldValue) → is_name label ≡ true → least_field label ≤ low → Formed.Rising low 999 (Formed.field_numbers fields) → Copied label low (field_rules label fields)
copied label low [] named least r = none_copied label low
copied label low (f ∷ fields) named least r = by (is_forbidden (Some f.usage)) (copied label (suc f.number) fields named (omega (arith, r.0)) r.2)
  where
    by : (b : Bool) → Copied label (suc f.number) (field_rules label fields) → Copied label low (if b then field_rules label fields else copy_rule label f.number ∷ field_rules label fields)
    by true h = passed label low f.number (field_rules label fields) r.0 h
    by false h = one_more label low f.number (field_rules label fields) named least r.0 r.1 h

-- ---- labels and names

abbrev LabelAgrees : Profile.SegmentValue → Type 0
LabelAgrees s = least_field s.label ≤ profile.least_field s.name

header_agrees : (s : Profile.SegmentValue) → Formed.IsHeader s → LabelAgrees s
header_agrees s h = let e : least_field s.label ≡ profile.least_field s.name = ap least_field (h.label ∙ sym h.name) in omega arith

at_least_one : (b : Bool) → 1 ≤ (if b then 3 else 1)
at_least_one true = omega arith
at_least_one false = omega arith

other_agrees : (s : Profile.SegmentValue) → Formed.IsOther s → LabelAgrees s
other_agrees s h =
    let e : least_field s.label ≡ 1 = if_false (bytes_eq s.label (codes "MSH")) 3 1 (false_not _ (λ t. h.1 ((bytes_eq-Decides s.label (codes "MSH")).0 t))) in
    let o : 1 ≤ profile.least_field s.name = at_least_one (bytes_eq s.name (codes "MSH")) in
    omega arith

others_agree : (f : Profile.Forest) → Formed.EachSegment Formed.IsOther f → Formed.EachSegment LabelAgrees f
others_agree Profile.nothing h = tt
others_agree (Profile.segment s rest) h = (other_agrees s h.0, others_agree rest h.1)
others_agree (Profile.group g nodes rest) h = (others_agree nodes h.0, others_agree rest h.1)

all_agree : (f : Profile.Forest) → Formed.Headed f → Formed.EachSegment LabelAgrees f
all_agree Profile.nothing h = absurd h
all_agree (Profile.segment s rest) h = (header_agrees s h.0, others_agree rest h.1)
all_agree (Profile.group g nodes rest) h = absurd h

-- ---- items

items_lawful : (tables : List (List ℕ)) (f : Profile.Forest) → Formed.EachSegment (Formed.LawfulSegment tables) f → Formed.EachGroup Formed.LawfulGroup f → Formed.EachSegment LabelAgrees f → LawfulItems [] (same_items f)
items_lawful tables Profile.nothing s g a = tt
items_lawful tables (Profile.segment v rest) s g a = by (is_forbidden (Some v.usage)) (items_lawful tables rest s.1 g a.1)
  where
    by : (b : Bool) → LawfulItems [] (same_items rest) → LawfulItems [] (if b then same_items rest else segment (record { line = 0; label = v.label; source = Some (walk_all v.label); rules = field_rules v.label v.fields }) (same_items rest))
    by true h = h
    by false h =
        let c = copied v.label (profile.least_field v.name) v.fields s.0.labelled a.0 s.0.rising in
        (record { labelled = s.0.labelled; source = all_walked v.label s.0.labelled; each = c.each; distinct = c.distinct }, h)
items_lawful tables (Profile.group g nodes rest) s h a =
    (record { labelled = h.0.labelled; walk = all_walked g.label h.0.labelled }, items_lawful tables nodes s.0 h.1 a.0, items_lawful tables rest s.1 h.2 a.1)

pub identity_lawful : (p : Profile.ProfileValue) → Formed.WellFormed p → Lawful (identity p)
identity_lawful p w =
    record {
      named = w.named;
      source = w.named;
      target = w.named;
      tables = tt;
      tables_distinct = tt;
      items = items_lawful (Formed.table_names p.tables) p.nodes w.segments w.groups (all_agree p.nodes w.headed);
      drops = tt;
    }

-- ---- a group of the program

pub group_is_same : {E : Type 0} (result : Result (Option Item) E) (g : GroupNode) (node : Node) (label : List ℕ) (nodes : List Node) → node ≡ Group g → label ≡ g.label.items → nodes ≡ g.nodes.items
    → IfOk result (λ item. (rest : Items) → with_some item rest ≡ group (record { line = 0; label = label; walk = walk_all label }) (same_items (forest nodes)) rest) → IfOk result (λ item. IsSame item node)
group_is_same (Err e) g node label nodes n l m h = tt
group_is_same (Ok item) g node label nodes n l m h = λ rest.
    h (same_items rest)
    ∙ (λ i. group (record { line = 0; label = l i; walk = walk_all (l i) }) (same_items (forest (m i))) (same_items rest))
    ∙ ap same_items (sym (group_forest g rest)) ∙ ap (λ k. same_items (node_forest k rest)) (sym n)
