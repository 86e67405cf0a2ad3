-- What is added to a message in the making: places one by one, texts at them, and segments.
use Rattle.std.proofs.Common.{◌≡◌, ℕ, zero, suc, ◌+◌, ◌<◌, ◌≤◌, inl, inr, List, [], ◌∷◌, ◌++◌, length, map, take, drop, get_or, None, refl, sym, ap, subst, ◌∙◌, append_assoc, arith, drop-cons}
use Rattle.std.proofs.lemmas.List.{append-nil, map_push, map-append, take_more, flat_map_more}
use Rattle.std.specs.List.{AllByRecursion, flat_map}
use Rattle.std.specs.Ordering.{nat_cmp}
use Rattle.std.specs.Cmp.Lexicographic.{slice_cmp, nat_list_cmp_total}
use Rattle.std.specs.FinMap as texts
use Rattle.std.specs.FinMap.{find, from_entries_push, get-from_entries, slice_cmp-IsAntisymmetric, nat_cmp-IsAntisymmetric}
use Rattle.gw_er7.specs.Building.{IsBegun, MayPut, with_last}
use Rattle.gw_er7.specs.Entries.{Entry}
use Rattle.gw_er7.specs.Message.{SegmentValue, Texts, IsEntry, IsSegment, IsOther, IsMessage, first_field}
use Rattle.gw_er7.specs.Names.{IsName}
use Rattle.gw_er7.proofs.Builds as builds
use Rattle.gw_er7.proofs.Each.{Each-append}
use Rattle.gw_er7.proofs.Keys.{no_tie}
use Rattle.gw_er7.proofs.Lasts.{kept_put}
use Rattle.gw_profile.specs.declared.node.Node.{Node, Seg, Group, Group'}
use Rattle.gw_profile.specs.declared.node.GroupNode.{GroupNode}
use Rattle.gw_profile.specs.Among.{Among, Distinct}
use Rattle.gw_profile.specs.Seen.{forest, node_forest}
use Rattle.gw_profile.specs.Shapes as shapes
use Rattle.gw_profile.specs.Shapes.{FieldValue, Forest, nothing, segment, group}
use Rattle.gw_profile.specs.WellFormed as profiles
use Rattle.gw_profile.specs.WellFormed.{LawfulSegment, EachSegment}
use Rattle.gw_profile.proofs.Rows.{group_forest}
use Rattle.gw_sample.specs.own.Least.{Key, null, rep_keys, reps_keys, keys_of, entries_of, one_of, several_of, least, ArePlaces, MayFollow, Adds}
use Rattle.gw_sample.proofs.Places.{places_are, name_of}

next : (i : ℕ) → suc i ≡ i + 1
next i = omega arith

-- ---- places

-- of the items of a slice, those of one item more
pub one_more : {X A B : Type 0} (F : A → List B) (seen : X → A) (xs : List X) (i : ℕ) (x d : X) (old now then : List B) → i < length xs → x ≡ get_or xs i d
    → now ≡ old ++ flat_map F (map seen (take i xs)) → then ≡ now ++ F (seen x) → then ≡ old ++ flat_map F (map seen (take (i + 1) xs))
one_more {X = X} {A = A} {B = B} F seen xs i x d old now then lt is e f =
    let more : take (i + 1) xs ≡ take i xs ++ x ∷ [] = take_more xs i d lt ∙ ap (λ (y : X). take i xs ++ y ∷ []) (sym is) in
    f ∙ ap (λ (l : List B). l ++ F (seen x)) e ∙ flat_map_more F old (map seen (take i xs)) (seen x)
    ∙ ap (λ (l : List A). old ++ flat_map F l) (sym (ap (map seen) more ∙ map_push seen (take i xs) x))

-- of a field, those of one repetition more
pub one_rep_more : (v : FieldValue) (i : ℕ) (old now then : List Key) → now ≡ old ++ reps_keys v i → then ≡ now ++ rep_keys v (i + 1) → then ≡ old ++ reps_keys v (i + 1)
one_rep_more v i old now then e f =
    f ∙ ap (λ (l : List Key). l ++ rep_keys v (i + 1)) e ∙ append_assoc old (reps_keys v i) (rep_keys v (i + 1))
    ∙ ap (λ (l : List Key). old ++ l) (ap (λ (n : ℕ). reps_keys v i ++ rep_keys v n) (sym (next i)) ∙ ap (reps_keys v) (next i))

-- ---- texts

with_last-push : (change : SegmentValue → SegmentValue) (ss : List SegmentValue) (s : SegmentValue) → with_last change (ss ++ s ∷ []) ≡ ss ++ change s ∷ []
with_last-push change [] s = refl
with_last-push change (x ∷ []) s = refl
with_last-push change (x ∷ y ∷ ss) s = ap (λ (rest : List SegmentValue). x ∷ rest) (with_last-push change (y ∷ ss) s)

among_at : (ks : List Key) (i : ℕ) (d : Key) → i < length ks → Among (get_or ks i d) ks
among_at [] i d lt = absurd (omega arith)
among_at (k ∷ ks) zero d lt = inl refl
among_at (k ∷ ks) (suc i) d lt = inr (among_at ks i d (omega arith))

-- a place isn't one before it
apart_before : (ks : List Key) (i : ℕ) (d : Key) → Distinct ks → i < length ks → Among (get_or ks i d) (take i ks) → ⊥
apart_before [] i d h lt a = absurd (omega arith)
apart_before (k ∷ ks) zero d h lt a = absurd a
apart_before (k ∷ ks) (suc i) d h lt (inl e) = h.0 (subst (λ (x : Key). Among x ks) e (among_at ks i d (omega arith)))
apart_before (k ∷ ks) (suc i) d h lt (inr a) = apart_before ks i d h.1 (omega arith) a

free : (key : Key) (ks : List Key) → (Among key ks → ⊥) → find (slice_cmp nat_cmp) key (entries_of ks) ≡ None
free key [] h = refl
free key (k ∷ ks) h = rw (no_tie key k (λ e. h (inl e))) (free key ks (λ a. h (inr a)))

-- the segment with `""` at these places
abbrev pub made : List ℕ → List Key → SegmentValue
made name ks = record { name = name; at = texts.from_entries {R = slice_cmp nat_cmp} (entries_of ks) }

entry_in : (P : Entry → Type 0) (ks : List Key) (i : ℕ) (d : Key) → AllByRecursion P (entries_of ks) → i < length ks → P (get_or ks i d, null)
entry_in P [] i d h lt = absurd (omega arith)
entry_in P (k ∷ ks) zero d h lt = h.0
entry_in P (k ∷ ks) (suc i) d h lt = entry_in P ks i d h.1 (omega arith)

module _ (name : List ℕ) (begun now : List SegmentValue) (ks : List Key) (i : ℕ) (d k : Key) (places : ArePlaces (first_field name) ks)
    (lt : i < length ks) (is : k ≡ get_or ks i d) (so_far : now ≡ begun ++ made name (take i ks) ∷ []) where
  none_there : find (slice_cmp nat_cmp) k (entries_of (take i ks)) ≡ None
  none_there = free k (take i ks) (λ a. apart_before ks i d places.distinct lt (subst (λ (x : Key). Among x (take i ks)) is a))

  -- `""` may be put at the next place
  pub may_put : MayPut k null now
  may_put =
      subst (MayPut k null) (sym so_far)
      (builds.may_put k null begun (made name (take i ks)) (get-from_entries nat_list_cmp_total (entries_of (take i ks)) k ∙ none_there)
      (subst (λ (x : Key). IsEntry (first_field name) (x, null)) (sym is) (entry_in (IsEntry (first_field name)) ks i d places.each lt)))

  -- and is put
  pub put_step : (then : List SegmentValue) → then ≡ with_last (λ s. record s { at = texts.insert s.at k null }) now → then ≡ begun ++ made name (take (i + 1) ks) ∷ []
  put_step then f =
      let change : SegmentValue → SegmentValue = λ (s : SegmentValue). record s { at = texts.insert s.at k null } in
      let more : take (i + 1) ks ≡ take i ks ++ k ∷ [] = take_more ks i d lt ∙ ap (λ (x : Key). take i ks ++ x ∷ []) (sym is) in
      let put : texts.insert (texts.from_entries {R = slice_cmp nat_cmp} (entries_of (take i ks))) k null ≡ texts.from_entries (entries_of (take (i + 1) ks)) =
      sym (ap (λ (es : List Entry). texts.from_entries {R = slice_cmp nat_cmp} es) (ap entries_of more ∙ map-append (λ (x : Key). (x, null)) (take i ks) (k ∷ []))
      ∙ from_entries_push nat_list_cmp_total (slice_cmp-IsAntisymmetric nat_cmp-IsAntisymmetric) (entries_of (take i ks)) k null none_there) in
      f ∙ ap (with_last change) so_far ∙ with_last-push change begun (made name (take i ks))
      ∙ ap (λ (m : Texts). begun ++ record { name = name; at = m } ∷ []) put

-- ---- a segment

made_lawful : (name : List ℕ) → IsName name → (ks : List Key) → AllByRecursion (IsEntry (first_field name)) (entries_of ks) → IsSegment (made name ks)
made_lawful name is [] h = builds.begun_segment name is
made_lawful name is (k ∷ ks) h = kept_put (made name ks) k null (made_lawful name is ks h.1) h.0

pub one_lawful : (tables : List (List ℕ)) (s : shapes.SegmentValue) → LawfulSegment tables s → IsSegment (one_of s)
one_lawful tables s l = made_lawful s.name (name_of s.name l.named) (keys_of s.fields) (places_are tables s l).each

-- the header alone is a message
pub header_message : (tables : List (List ℕ)) (s : shapes.SegmentValue) → LawfulSegment tables s → profiles.IsHeader s → IsMessage (one_of s ∷ [])
header_message tables s l h = (record { segment = one_lawful tables s l; name = h.name }, tt)

-- a segment that isn't the header may follow
pub follows : (m : List SegmentValue) (s : SegmentValue) → IsMessage m → IsOther s → IsMessage (m ++ s ∷ [])
follows [] s is other = absurd is
follows (x ∷ m) s is other = (is.0, Each-append IsOther m (s ∷ []) is.1 (other, tt))

several_push : {A : Type 0} (k : ℕ) (l : List A) → several_of (suc k) l ≡ several_of k l ++ l
several_push zero l = append-nil l
several_push {A = A} (suc k) l = ap (λ (x : List A). l ++ x) (several_push k l) ∙ sym (append_assoc l (several_of k l) l)

adds_none : (old : List SegmentValue) → IsMessage old → Adds [] old old
adds_none old is = record { added = sym (append-nil old); message = is }

adds_both : (a b old now new : List SegmentValue) → Adds a old now → Adds b now new → Adds (a ++ b) old new
adds_both a b old now new x y = record {
  added = y.added ∙ ap (λ (l : List SegmentValue). l ++ b) x.added ∙ append_assoc old a b;
  message = y.message;
}

-- once more
pub adds_again : (l old now new : List SegmentValue) (i : ℕ) → Adds (several_of i l) old now → Adds l now new → Adds (several_of (i + 1) l) old new
adds_again l old now new i x y = subst (λ (k : List SegmentValue). Adds k old new) (sym (several_push i l) ∙ ap (λ (n : ℕ). several_of n l) (next i)) (adds_both (several_of i l) l old now new x y)

module _ (s : shapes.SegmentValue) (now : List SegmentValue) (may : MayFollow (segment s nothing) now) where
  pub begins : IsBegun (now ++ builds.begun s.name ∷ [])
  begins = builds.begun_other now s.name may.message (name_of s.name may.lawful.0.named) may.others.0.0

  pub placed : (ks : List Key) → ks ≡ keys_of s.fields → ArePlaces (first_field s.name) ks
  placed ks e = subst (ArePlaces (first_field s.name)) (sym e) (places_are may.tables s may.lawful.0)

  pub added : (ks : List Key) (new : List SegmentValue) → ks ≡ keys_of s.fields → new ≡ now ++ made s.name ks ∷ [] → Adds (one_of s ∷ []) now new
  added ks new e f =
      let is : new ≡ now ++ one_of s ∷ [] = f ∙ ap (λ (l : List Key). now ++ made s.name l ∷ []) e in
      record { added = is; message = subst IsMessage (sym is) (follows now (one_of s) may.message (record { segment = one_lawful may.tables s may.lawful.0; name = may.others.0.0 })) }

-- it may follow what was added, too
pub may_again : (f : Forest) (l old now : List SegmentValue) → MayFollow f old → Adds l old now → MayFollow f now
may_again f l old now may a = record { tables = may.tables; lawful = may.lawful; others = may.others; message = a.message }

pub none_yet : (f : Forest) (old : List SegmentValue) → MayFollow f old → Adds [] old old
none_yet f old may = adds_none old may.message

-- ---- nodes

each_before : (P : shapes.SegmentValue → Type 0) (n : Node) (rest : Forest) → EachSegment P (node_forest n rest) → EachSegment P (node_forest n nothing) × EachSegment P rest
each_before P (Seg s) rest e = ((e.0, tt), e.1)
each_before P (Group' label usage card shape row) rest e = ((e.0, tt), e.1)

pub least_before : (n : Node) (rest : Forest) → least (node_forest n rest) ≡ least (node_forest n nothing) ++ least rest
least_before (Seg s) rest = ap (λ (l : List SegmentValue). l ++ least rest) (sym (append-nil _))
least_before (Group' label usage card shape row) rest = ap (λ (l : List SegmentValue). l ++ least rest) (sym (append-nil _))

-- the nodes from number i on are still to be added
pub record Left (old now : List SegmentValue) (nodes : List Node) (i : ℕ) : Type 0 where
  pub left : old ++ least (forest nodes) ≡ now ++ least (forest (drop i nodes))
  pub may : MayFollow (forest (drop i nodes)) now

pub all_left : (old : List SegmentValue) (nodes : List Node) → MayFollow (forest nodes) old → Left old old nodes 0
all_left old nodes may = record { left = refl; may = may }

pub rest_is : (nodes : List Node) (i : ℕ) (node : Node) → i < length nodes → node ≡ get_or nodes i node → drop i nodes ≡ node ∷ drop (i + 1) nodes
rest_is nodes i node lt at = drop-cons nodes i node lt ∙ ap (λ (k : ℕ). get_or nodes i node ∷ drop k nodes) (next i) ∙ ap (λ (n : Node). n ∷ drop (i + 1) nodes) (sym at)

pub may_next : (old now : List SegmentValue) (nodes : List Node) (i : ℕ) (node : Node) → i < length nodes → node ≡ get_or nodes i node → Left old now nodes i → MayFollow (node_forest node nothing) now
may_next old now nodes i node lt at h =
    let is = rest_is nodes i node lt at in
    let rest = forest (drop (i + 1) nodes) in
    let may : MayFollow (node_forest node rest) now = subst (λ (l : List Node). MayFollow (forest l) now) is h.may in
    record {
      tables = may.tables;
      lawful = (each_before (LawfulSegment may.tables) node rest may.lawful).0;
      others = (each_before profiles.IsOther node rest may.others).0;
      message = may.message;
    }

pub one_less : (old now new : List SegmentValue) (nodes : List Node) (i : ℕ) (node : Node) → i < length nodes → node ≡ get_or nodes i node → Left old now nodes i → Adds (least (node_forest node nothing)) now new → Left old new nodes (i + 1)
one_less old now new nodes i node lt at h a =
    let is = rest_is nodes i node lt at in
    let rest = forest (drop (i + 1) nodes) in
    let may : MayFollow (node_forest node rest) now = subst (λ (l : List Node). MayFollow (forest l) now) is h.may in
    record {
      left =
          h.left ∙ ap (λ (l : List Node). now ++ least (forest l)) is ∙ ap (λ (l : List SegmentValue). now ++ l) (least_before node rest)
          ∙ sym (append_assoc now (least (node_forest node nothing)) (least rest)) ∙ ap (λ (l : List SegmentValue). l ++ least rest) (sym a.added);
      may = record {
        tables = may.tables;
        lawful = (each_before (LawfulSegment may.tables) node rest may.lawful).1;
        others = (each_before profiles.IsOther node rest may.others).1;
        message = a.message;
      };
    }

pub past : (nodes : List Node) (i : ℕ) → length nodes ≤ i → drop i nodes ≡ []
past [] zero le = refl
past [] (suc i) le = refl
past (n ∷ nodes) zero le = absurd (omega (arith, le))
past (n ∷ nodes) (suc i) le = past nodes i (omega (arith, le))

pub none_left : (old now : List SegmentValue) (nodes : List Node) (i : ℕ) → length nodes ≤ i → Left old now nodes i → Adds (least (forest nodes)) old now
none_left old now nodes i le h = record {
  added = sym (h.left ∙ ap (λ (l : List Node). now ++ least (forest l)) (past nodes i le) ∙ append-nil now);
  message = h.may.message;
}

-- a group's own nodes
pub may_group : (node : Node) (g : GroupNode) (nodes : List Node) (old : List SegmentValue) → node ≡ Group g → nodes ≡ g.nodes.items → MayFollow (node_forest node nothing) old → MayFollow (forest nodes) old
may_group node g nodes old is items may =
    let whole : MayFollow (group (record { label = g.label.items; usage = g.usage; card = g.card }) (forest g.nodes.items) nothing) old =
    subst (λ (f : Forest). MayFollow f old) (ap (λ (n : Node). node_forest n nothing) is ∙ group_forest g nothing) may in
    subst (λ (l : List Node). MayFollow (forest l) old) (sym items) (record { tables = whole.tables; lawful = whole.lawful.0; others = whole.others.0; message = whole.message })

pub group_least : (node : Node) (g : GroupNode) (nodes : List Node) → node ≡ Group g → nodes ≡ g.nodes.items → least (node_forest node nothing) ≡ several_of g.card.min (least (forest nodes))
group_least node g nodes is items =
    ap least (ap (λ (n : Node). node_forest n nothing) is ∙ group_forest g nothing) ∙ append-nil (several_of g.card.min (least (forest g.nodes.items)))
    ∙ ap (λ (l : List Node). several_of g.card.min (least (forest l))) (sym items)

pub group_next : (nodes items : List Node) (old now new : List SegmentValue) (i : ℕ) → nodes ≡ items → Adds (several_of i (least (forest items))) old now → Adds (least (forest nodes)) now new
    → Adds (several_of (i + 1) (least (forest items))) old new
group_next nodes items old now new i e x y = adds_again (least (forest items)) old now new i x (subst (λ (l : List Node). Adds (least (forest l)) now new) e y)

pub group_done : (node : Node) (g : GroupNode) (old now : List SegmentValue) (i : ℕ) → node ≡ Group g → i ≤ g.card.min → g.card.min ≤ i → Adds (several_of i (least (forest g.nodes.items))) old now
    → Adds (least (node_forest node nothing)) old now
group_done node g old now i is le ge x =
    let all : i ≡ g.card.min = omega (arith, le, ge) in
    subst (λ (l : List SegmentValue). Adds l old now) (ap (λ (n : ℕ). several_of n (least (forest g.nodes.items))) all ∙ sym (group_least node g g.nodes.items is refl)) x
