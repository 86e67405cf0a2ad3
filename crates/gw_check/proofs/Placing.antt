-- Where the rules on labels hold, items stand in the order of their nodes, and keep what every map keeps.
use Rattle.std.proofs.Common.{◌≡◌, ℕ, suc, ◌≤◌, Bool, true, false, List, [], ◌∷◌, ◌++◌, Option, Some, None, refl, sym, ap, ap₂, ◌∙◌, subst, arith}
use Rattle.std.specs.Prelude.{if◌then◌else◌, option_map, nat_lt, ◌&&◌, not, bytes_eq, unwrap_or, option_and_then}
use Rattle.std.specs.List.{list_all}
use Rattle.std.proofs.lemmas.Bool.{le-leb, eq-eqb}
use Rattle.std.proofs.lemmas.List.Folds.{list_all-append}
use Rattle.std.proofs.lemmas.Slice.Eq.{bytes_eq-Decides}
use Rattle.gw_profile.proofs.Facts.{both, not_false, lt_is}
use Rattle.gw_profile.specs.Shapes.{Forest}
use Rattle.gw_maplang.specs.Shapes as raw
use Rattle.gw_maplang.specs.Lawful as theirs
use Rattle.gw_resolve.specs.Failures.{Mark, at_line, Failure, fails, or_later}
use Rattle.gw_resolve.specs.Places.{Element, child, nodes_of_child, within}
use Rattle.gw_resolve.specs.Resolved.{Items, first_child}
use Rattle.gw_resolve.specs.Order.{is_segment, is_group, all_for, are_placed, follows}
use Rattle.gw_profile.specs.Labels.{labelled}
use Rattle.gw_resolve.specs.Naming.{node_or, after, first_or, labels, are_one, label_failures, target_failures, resolved_items, place_or}

-- ---- no failures

later_nil : (a b : List Failure) → or_later a b ≡ [] → (a ≡ []) × (b ≡ [])
later_nil [] b e = (refl, e)
later_nil (f ∷ a) b e = absurd (cc)

pub nil_both : {A : Type 0} (a b : List A) → a ++ b ≡ [] → (a ≡ []) × (b ≡ [])
nil_both [] b e = (refl, e)
nil_both (x ∷ a) b e = absurd (cc)

pub not_broken : (rule : ℕ) (mark : Mark) (broken : Bool) → fails rule mark broken ≡ [] → broken ≡ false
not_broken rule mark true e = absurd (cc)
not_broken rule mark false e = refl

-- a label is that of the first node, or is found one later than behind it
pub first_or_later : (P : ℕ → Type 0) (own : Bool) (o : Option ℕ) (k : ℕ) → (own ≡ true → P 0) → ((i : ℕ) → o ≡ Some i → P (suc i)) → (if own then Some 0 else option_map suc o) ≡ Some k → P k
first_or_later P true o k first later e = let same : 0 ≡ k = cc in subst P same (first refl)
first_or_later P false None k first later e = absurd (cc)
first_or_later P false (Some i) k first later e = let same : suc i ≡ k = cc in subst P same (later i refl)

-- a label that names a node of this kind, none of a lower number than j
pub record Named (nodes : Forest) (is_kind : Option Element → Bool) (j : ℕ) (label : List ℕ) : Type 0 where
  pub at : labelled nodes label ≡ Some (node_or 0 nodes label)
  pub kind : is_kind (child nodes (node_or 0 nodes label)) ≡ true
  pub order : j ≤ node_or 0 nodes label

named_by : (nodes : Forest) (is_kind : Option Element → Bool) (j : ℕ) (label : List ℕ) (o : Option ℕ) → is_kind None ≡ false → labelled nodes label ≡ o → is_kind (option_and_then (child nodes) o) ≡ true → nat_lt (unwrap_or o j) j ≡ false → Named nodes is_kind j label
named_by nodes is_kind j label None none at kind order = absurd (cc)
named_by nodes is_kind j label (Some k) none at kind order =
    let there : node_or 0 nodes label ≡ k = ap (λ o. unwrap_or o 0) at in
    record { at = at ∙ ap Some (sym there); kind = subst (λ n. is_kind (child nodes n) ≡ true) (sym there) kind; order = omega (arith, lt_is (suc k) j order, there) }

named : (nodes : Forest) (is_kind : Option Element → Bool) (j line : ℕ) (label : List ℕ) → is_kind None ≡ false → label_failures nodes is_kind j line label ≡ [] → Named nodes is_kind j label
named nodes is_kind j line label none e =
    let p = nil_both (fails 3 (at_line line) (not (is_kind (option_and_then (child nodes) (labelled nodes label))))) (fails 3 (at_line line) (nat_lt (node_or j nodes label) j)) e in
    named_by nodes is_kind j label (labelled nodes label) none refl (not_false _ (not_broken 3 (at_line line) _ p.0)) (not_broken 3 (at_line line) _ p.1)

-- the next items stand behind it
behind : (nodes : Forest) (j line : ℕ) (label : List ℕ) (rest : raw.Items) → fails 3 (at_line line) (nat_lt (node_or j nodes label) j) ≡ [] → target_failures nodes (after j nodes label) rest ≡ [] → target_failures nodes (node_or j nodes label) rest ≡ []
behind nodes j line label rest e h = ap (λ b. target_failures nodes (if b then j else node_or j nodes label) rest) (sym (not_broken 3 (at_line line) _ e)) ∙ h

-- its number, whatever stands in for none
pub alike : (nodes : Forest) (label : List ℕ) (j : ℕ) → labelled nodes label ≡ Some (node_or 0 nodes label) → node_or j nodes label ≡ node_or 0 nodes label
alike nodes label j e = ap (λ o. unwrap_or o j) e

-- ---- items that have labels

first_of_both : (a b : List (List ℕ)) → (a ≡ [] → ⊥) → first_or (a ++ b) ≡ first_or a
first_of_both [] b f = absurd (f refl)
first_of_both (x ∷ a) b f = refl

pub some_labels : (names : List (List ℕ)) (items : raw.Items) → theirs.LawfulItems names items → (items ≡ raw.nothing → ⊥) → labels items ≡ [] → ⊥
some_labels names raw.nothing h some e = absurd (some refl)
some_labels names (raw.flat f items rest) h some e = some_labels names items h.1 h.0.some (nil_both (labels items) (labels rest) e).0
some_labels names items h some e = absurd (cc)

-- ---- the failures of each kind of item

pub segment_parts : (nodes : Forest) (j : ℕ) (s : raw.SegmentItem) (rest : raw.Items) → target_failures nodes j (raw.segment s rest) ≡ [] → Named nodes is_segment j s.label × (target_failures nodes (node_or j nodes s.label) rest ≡ [])
segment_parts nodes j s rest e =
    let p = nil_both (label_failures nodes is_segment j s.line s.label) (target_failures nodes (after j nodes s.label) rest) e in
    (named nodes is_segment j s.line s.label refl p.0, behind nodes j s.line s.label rest (nil_both (fails 3 (at_line s.line) _) _ p.0).1 p.1)

pub record GroupParts (nodes : Forest) (j : ℕ) (g : raw.GroupItem) (items rest : raw.Items) : Type 0 where
  pub label : Named nodes is_group j g.label
  pub inner : target_failures (nodes_of_child nodes (node_or j nodes g.label)) 0 items ≡ []
  pub others : target_failures nodes (node_or j nodes g.label) rest ≡ []

pub group_parts : (nodes : Forest) (j : ℕ) (g : raw.GroupItem) (items rest : raw.Items) → target_failures nodes j (raw.group g items rest) ≡ [] → GroupParts nodes j g items rest
group_parts nodes j g items rest e =
    let a = label_failures nodes is_group j g.line g.label in
    let b = target_failures (nodes_of_child nodes (node_or j nodes g.label)) 0 items in
    let p = nil_both (or_later a b) (target_failures nodes (after j nodes g.label) rest) e in
    let q = later_nil a b p.0 in
    record { label = named nodes is_group j g.line g.label refl q.0; inner = q.1; others = behind nodes j g.line g.label rest (nil_both (fails 3 (at_line g.line) _) _ q.0).1 p.1 }

pub record FlatParts (nodes : Forest) (j : ℕ) (items rest : raw.Items) : Type 0 where
  pub one : are_one (labels items) ≡ true
  pub order : nat_lt (node_or j nodes (first_or (labels items))) j ≡ false
  pub inner : target_failures nodes 0 items ≡ []
  pub others : target_failures nodes (node_or j nodes (first_or (labels items))) rest ≡ []

pub flat_parts : (nodes : Forest) (j : ℕ) (f : raw.FlatItem) (items rest : raw.Items) → target_failures nodes j (raw.flat f items rest) ≡ [] → FlatParts nodes j items rest
flat_parts nodes j f items rest e =
    let a = fails 3 (at_line f.line) (not (are_one (labels items))) in
    let b = fails 3 (at_line f.line) (nat_lt (node_or j nodes (first_or (labels items))) j) in
    let c = target_failures nodes 0 items in
    let p = nil_both (or_later (a ++ b) c) (target_failures nodes (after j nodes (first_or (labels items))) rest) e in
    let q = later_nil (a ++ b) c p.0 in
    let r = nil_both a b q.0 in
    record { one = not_false _ (not_broken 3 (at_line f.line) _ r.0); order = not_broken 3 (at_line f.line) _ r.1; inner = q.1; others = behind nodes j f.line (first_or (labels items)) rest r.1 p.1 }

-- the first label names a node
first_named : (names : List (List ℕ)) (nodes : Forest) (j : ℕ) (items : raw.Items) → theirs.LawfulItems names items → (items ≡ raw.nothing → ⊥) → target_failures nodes j items ≡ [] → labelled nodes (first_or (labels items)) ≡ Some (node_or 0 nodes (first_or (labels items)))
first_named names nodes j raw.nothing h some e = absurd (some refl)
first_named names nodes j (raw.segment s rest) h some e = (segment_parts nodes j s rest e).0.at
first_named names nodes j (raw.group g items rest) h some e = (group_parts nodes j g items rest e).label.at
first_named names nodes j (raw.flat f items rest) h some e =
    subst (λ l. labelled nodes l ≡ Some (node_or 0 nodes l)) (sym (first_of_both (labels items) (labels rest) (some_labels names items h.1 h.0.some)))
    (first_named names nodes 0 items h.1 h.0.some (flat_parts nodes j f items rest e).inner)

-- the number of the first node
first_is : (tables : List raw.TableValue) (scope : List Element) (names : List (List ℕ)) (nodes : Forest) (items : raw.Items) → theirs.LawfulItems names items → (items ≡ raw.nothing → ⊥) → first_child (resolved_items tables scope nodes items) ≡ Some (node_or 0 nodes (first_or (labels items)))
first_is tables scope names nodes raw.nothing h some = absurd (some refl)
first_is tables scope names nodes (raw.flat f items rest) h some =
    first_is tables (within scope (place_or scope f.walk.path)) names nodes items h.1 h.0.some
    ∙ ap (λ l. Some (node_or 0 nodes l)) (sym (first_of_both (labels items) (labels rest) (some_labels names items h.1 h.0.some)))
first_is tables scope names nodes items h some = refl

all_both : (test : List ℕ → Bool) (a b : List (List ℕ)) → list_all test (a ++ b) ≡ true → (list_all test a ≡ true) × (list_all test b ≡ true)
all_both test a b e = both (list_all test a) (list_all test b) (sym (list_all-append test a b) ∙ e)

one_all : (ls : List (List ℕ)) → are_one ls ≡ true → list_all (bytes_eq (first_or ls)) ls ≡ true
one_all [] e = refl
one_all (x ∷ ls) e = ap₂ (λ s t. s && t) ((bytes_eq-Decides x x).1 refl) e

-- what the rules on labels say of items, whatever nodes come before
record Fit (nodes : Forest) (made : Items) (items : raw.Items) : Type 0 where
  placed : (j : ℕ) → target_failures nodes j items ≡ [] → are_placed nodes j made ≡ true
  same : (j k : ℕ) (label : List ℕ) → target_failures nodes j items ≡ [] → list_all (bytes_eq label) (labels items) ≡ true → node_or 0 nodes label ≡ k → all_for nodes k made ≡ true

fit : (tables : List raw.TableValue) (names : List (List ℕ)) (scope : List Element) (nodes : Forest) (items : raw.Items) → theirs.LawfulItems names items → Fit nodes (resolved_items tables scope nodes items) items
fit tables names scope nodes raw.nothing h = record { placed = λ j e. refl; same = λ j k label e all is. refl }
fit tables names scope nodes (raw.segment s rest) h =
    let behind = fit tables names scope nodes rest h.1 in
    let number = node_or 0 nodes s.label in
    record {
      placed = λ j e.
          let p = segment_parts nodes j s rest e in
          let later = behind.placed number (subst (λ c. target_failures nodes c rest ≡ []) (alike nodes s.label j p.0.at) p.1) in
          λ i. le-leb j number p.0.order i && p.0.kind i && later i;
      same = λ j k label e all is.
          let p = segment_parts nodes j s rest e in
          let a = both (bytes_eq label s.label) (list_all (bytes_eq label) (labels rest)) all in
          let here : number ≡ k = ap (node_or 0 nodes) (sym ((bytes_eq-Decides label s.label).0 a.0)) ∙ is in
          let kind = subst (λ c. is_segment (child nodes c) ≡ true) here p.0.kind in
          λ i. eq-eqb number k here i && kind i && behind.same (node_or j nodes s.label) k label p.1 a.1 is i;
    }
fit tables names scope nodes (raw.group g items rest) h =
    let behind = fit tables names scope nodes rest h.2 in
    let number = node_or 0 nodes g.label in
    let inner = within scope (place_or scope g.walk.path) in
    let below = fit tables names inner (nodes_of_child nodes number) items h.1 in
    record {
      placed = λ j e.
          let p = group_parts nodes j g items rest e in
          let same = alike nodes g.label j p.label.at in
          let within_it = below.placed 0 (subst (λ c. target_failures (nodes_of_child nodes c) 0 items ≡ []) same p.inner) in
          let later = behind.placed number (subst (λ c. target_failures nodes c rest ≡ []) same p.others) in
          λ i. le-leb j number p.label.order i && p.label.kind i && within_it i && later i;
      same = λ j k label e all is.
          let p = group_parts nodes j g items rest e in
          let a = both (bytes_eq label g.label) (list_all (bytes_eq label) (labels rest)) all in
          let here : number ≡ k = ap (node_or 0 nodes) (sym ((bytes_eq-Decides label g.label).0 a.0)) ∙ is in
          let within_it = below.placed 0 (subst (λ c. target_failures (nodes_of_child nodes c) 0 items ≡ []) (alike nodes g.label j p.label.at) p.inner) in
          let those = resolved_items tables inner (nodes_of_child nodes number) items in
          let kinds = subst (λ c. is_group (child nodes c) && are_placed (nodes_of_child nodes c) 0 those ≡ true) here (λ i. p.label.kind i && within_it i) in
          let parts = both (is_group (child nodes k)) (are_placed (nodes_of_child nodes k) 0 those) kinds in
          λ i. eq-eqb number k here i && parts.0 i && parts.1 i && behind.same (node_or j nodes g.label) k label p.others a.1 is i;
    }
fit tables names scope nodes (raw.flat f items rest) h =
    let behind = fit tables names scope nodes rest h.2 in
    let inner = within scope (place_or scope f.walk.path) in
    let below = fit tables names inner nodes items h.1 in
    let first = first_or (labels items) in
    let number = node_or 0 nodes first in
    record {
      placed = λ j e.
          let p = flat_parts nodes j f items rest e in
          let same = alike nodes first j (first_named names nodes 0 items h.1 h.0.some p.inner) in
          let order : j ≤ number = omega (arith, lt_is (suc (node_or j nodes first)) j p.order, same) in
          let within_it = below.same 0 number first p.inner (one_all (labels items) p.one) refl in
          let later = behind.placed number (subst (λ c. target_failures nodes c rest ≡ []) same p.others) in
          subst (λ o. follows o j && all_for nodes (unwrap_or o j) (resolved_items tables inner nodes items) && are_placed nodes (unwrap_or o j) (resolved_items tables scope nodes rest) ≡ true)
          (sym (first_is tables inner names nodes items h.1 h.0.some)) (λ i. le-leb j number order i && within_it i && later i);
      same = λ j k label e all is.
          let p = flat_parts nodes j f items rest e in
          let a = all_both (bytes_eq label) (labels items) (labels rest) all in
          λ i. below.same 0 k label p.inner a.0 is i && behind.same (node_or j nodes first) k label p.others a.1 is i;
    }

-- each item gives a node of its level, in their order
pub placed_where_named : (tables : List raw.TableValue) (names : List (List ℕ)) (scope : List Element) (nodes : Forest) (items : raw.Items) → theirs.LawfulItems names items → target_failures nodes 0 items ≡ [] → are_placed nodes 0 (resolved_items tables scope nodes items) ≡ true
placed_where_named tables names scope nodes items h e = (fit tables names scope nodes items h).placed 0 e
