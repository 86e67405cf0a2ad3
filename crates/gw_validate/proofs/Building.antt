-- The tree of a list that fits is cut from its front, by one name of look-ahead.
use Rattle.std.proofs.Common.{◌≡◌, ℕ, suc, ◌+◌, ◌-◌, ◌<◌, ◌≤◌, inl, inr, true, false, List, [], ◌∷◌, ◌++◌, Option, refl, sym, ap, ◌∙◌, subst, arith, length, append_assoc, append-nil, length-append, map, ◌↔◌, take, drop, get_or, get_or-drop, length-drop, length-take-le, drop-cons}
use Rattle.std.specs.Prelude.{◌&&◌}
use Rattle.std.specs.List.{AllByRecursion}
use Rattle.std.specs.Str.{bytes_eq}
use Rattle.gw_profile.specs.declared.node.Node.{Node, Seg, Group, Group'}
use Rattle.gw_profile.specs.declared.node.SegNode as declared_segment
use Rattle.gw_profile.specs.declared.node.GroupNode as declared_group
use Rattle.gw_profile.specs.Seen.{row_forest, node_forest, forest, segment_value}
use Rattle.gw_profile.specs.Shapes.{SegmentValue, GroupValue}
use Rattle.gw_profile.specs.Shapes.{Forest, nothing, segment, group}
use Rattle.gw_validate.specs.Cuts.{Cut, Times, Fits}
use Rattle.gw_validate.specs.own.Residual.{less, append, has_room, seg, grp}
use Rattle.gw_validate.specs.own.Tests.{can_begin}
use Rattle.gw_validate.specs.Trees.{Tree, leaf, segments, groups, Trees, no_trees, trees, count_of, IsTree, AreTrees}
use Rattle.gw_validate.specs.declared.occurrences.Occurrences.{Occurrences}
use Rattle.gw_validate.specs.declared.occurrences.Child.{Child}
use Rattle.gw_validate.specs.declared.occurrences.Found.{Found}
use Rattle.gw_validate.specs.own.Occurring.{children_of, kept, numbers_of, found_of, tree_from, tree_of, trees_of, AreOrdered, IsOrdered, IsUpTo, Rising}
use Rattle.gw_validate.proofs.Rows.{one_tree, one_same, nodes_same, nodes_push, one_ordered, same_ordered, push_ordered}
use Rattle.gw_validate.proofs.Walking.{forest_group, value_of}
use Rattle.gw_validate.proofs.Joined.{append_nothing}
use Rattle.gw_validate.proofs.Unique.{tree_fits}
use Rattle.std.proofs.lemmas.List.{take_more}
use Rattle.std.proofs.lemmas.Grind.{common_steps}
use Rattle.gw_validate.specs.own.Building.{Built, Builds, BuiltGroups, BuildsGroups, BuiltSegments, BuildsSegments, Still, GoingSegments, GoSegments, GoingGroups, GoGroups, GoNodes}
use Rattle.gw_validate.proofs.Cuts.{passed, taken, starts, none, at_most_zero, at_most_more, less_least, below_less}
use Rattle.gw_validate.proofs.Names.{names_equal, equal_names}
use Rattle.gw_validate.proofs.Step.{fits_first, child_full, join_fits, well_joined, narrow}
use Rattle.gw_validate.proofs.Exact.{room, behind_left, well_left}
use Rattle.gw_validate.proofs.Bools.{both, either, or_left, or_right, and_of, zero_is}
use Rattle.gw_profile.specs.Deterministic.{Name, AtMost, Below, First, Determined, NoName}
use Rattle.gw_validate.specs.own.Joining.{append_tree, append_trees}

pub can_begin_is : (f : Forest) (x : Name) → (can_begin f x ≡ true) ↔ First f x
can_begin_is nothing x = (λ e. cc, λ h. absurd h)
can_begin_is (segment sv rest) x = (
  λ e. elim (either (has_room sv.card.max && bytes_eq sv.name x) _ e) [
    | inl a ↦ (let p = both _ _ a in elim (room sv.card.max) [ inl r ↦ inl (r.1, sym (names_equal sv.name x p.1)) | inr r ↦ absurd (cc) ])
    | inr a ↦ (let p = both _ _ a in inr ((zero_is sv.card.min).0 p.0, (can_begin_is rest x).0 p.1))
  ],
  elim [
    | inl h ↦ elim (room sv.card.max) [ inl r ↦ or_left _ _ (and_of _ _ r.0 (equal_names sv.name x (sym h.1))) | inr r ↦ absurd (r.1 h.0) ]
    | inr h ↦ or_right (has_room sv.card.max && bytes_eq sv.name x) _ (and_of _ _ ((zero_is sv.card.min).1 h.0) ((can_begin_is rest x).1 h.1))
  ],
)
can_begin_is (group gv ch rest) x = (
  λ e. elim (either (has_room gv.card.max && can_begin ch x) _ e) [
    | inl a ↦ (let p = both _ _ a in elim (room gv.card.max) [ inl r ↦ inl (r.1, (can_begin_is ch x).0 p.1) | inr r ↦ absurd (cc) ])
    | inr a ↦ (let p = both _ _ a in inr ((zero_is gv.card.min).0 p.0, (can_begin_is rest x).0 p.1))
  ],
  elim [
    | inl h ↦ elim (room gv.card.max) [ inl r ↦ or_left _ _ (and_of _ _ r.0 ((can_begin_is ch x).1 h.1)) | inr r ↦ absurd (r.1 h.0) ]
    | inr h ↦ or_right (has_room gv.card.max && can_begin ch x) _ (and_of _ _ ((zero_is gv.card.min).1 h.0) ((can_begin_is rest x).1 h.1))
  ],
)

-- where the test says yes, one more is allowed
room_yes : (high : Option ℕ) → has_room high ≡ true → Below 0 high
room_yes high e = elim (room high) [ inl r ↦ r.1 | inr r ↦ absurd (cc) ]

room_no : (high : Option ℕ) → Below 0 high → has_room high ≡ true
room_no high b = elim (room high) [ inl r ↦ r.0 | inr r ↦ absurd (r.1 b) ]

module _ (P R : List Name → Type 0) (F : Name → Type 0) (full : P [] → ⊥) (first : (x : Name) (w : List Name) → P (x ∷ w) → F x) (low : ℕ) (high : Option ℕ) (apart : (x : Name) (w : List Name) → R (x ∷ w) → F x → Below low high → ⊥) where
  go_on : (x : Name) (w : List Name) → Below 0 high → F x → Cut (Times low high P) R (x ∷ w) → Cut P (Cut (Times (low - 1) (less high) P) R) (x ∷ w)
  go_on x w b f h = elim (starts P R low high x w full h) [
    | passed z r ↦ absurd (apart x w r f (let Q : ℕ → Type 0 = λ l. Below l high in subst Q (sym z) b))
    | taken b' p q e here c ↦ record { front = x ∷ p; back = q; joined = ap (λ l. x ∷ l) e; here = here; there = c }
  ]

  stop : (x : Name) (w : List Name) → (Below 0 high → F x → ⊥) → Cut (Times low high P) R (x ∷ w) → (low ≡ 0) × R (x ∷ w)
  stop x w never h = elim (starts P R low high x w full h) [
    | passed z r ↦ (z, r)
    | taken b p q e here c ↦ absurd (never b (first x p here))
  ]

still_more : (low : ℕ) (high : Option ℕ) (c d due_low : ℕ) (due_high : Option ℕ) → d ≡ suc c → Below 0 due_high → Still low high c due_low due_high → Still low high d (due_low - 1) (less due_high)
still_more low high c d due_low due_high e b s = record {
  least = omega (arith, s.least, e);
  room = λ n h. subst (AtMost high) (shift n) (s.room (suc n) (at_most_more due_high n b h));
}
  where
    shift : (n : ℕ) → c + suc n ≡ d + n
    shift n = omega (arith, e)

still_most : (low : ℕ) (high : Option ℕ) (c due_low : ℕ) (due_high : Option ℕ) → AtMost due_high due_low → Still low high c due_low due_high → AtMost high c
still_most low high c due_low due_high m s = subst (AtMost high) (plain c) (s.room 0 (at_most_zero due_high due_low m))
  where
    plain : (c : ℕ) → c + 0 ≡ c
    plain c = omega arith

all_more : (P : ℕ → Type 0) (ns : List ℕ) (i : ℕ) → AllByRecursion P ns → P i → AllByRecursion P (ns ++ i ∷ [])
all_more P [] i a p = (p, tt)
all_more P (n ∷ ns) i a p = (a.0, all_more P ns i a.1 p)

length_more : (ns : List ℕ) (i : ℕ) → length (ns ++ i ∷ []) ≡ suc (length ns)
length_more [] i = refl
length_more (n ∷ ns) i = ap suc (length_more ns i)

-- ---- segments

module _ (named : ℕ → Name) (sv : SegmentValue) (low : ℕ) (high : Option ℕ) (g : Forest) (list ns : List ℕ) (dl : ℕ) (dh : Option ℕ) (rest : List ℕ) (s : GoingSegments named sv low high g list ns dl dh rest) where
  segment_full : ([] ≡ sv.name ∷ []) → ⊥
  segment_full e = cc

  segment_first : (x : Name) (w : List Name) → (x ∷ w ≡ sv.name ∷ []) → x ≡ sv.name
  segment_first x w e = cc

  segment_apart : (x : Name) (w : List Name) → Fits g (x ∷ w) → x ≡ sv.name → Below dl dh → ⊥
  segment_apart x w r f b = s.kept.1 x b f (inl (fits_first g NoName s.kept.2 x w r))

  segment_built : dl ≡ 0 → Fits g (map named rest) → BuiltSegments named sv.name low high g list ns rest
  segment_built z f = record { joined = s.joined; least = omega (arith, s.still.least, z); most = still_most low high (length ns) dl dh s.kept.0 s.still; here = s.here; there = f }

  pub segments_end : rest ≡ [] → BuiltSegments named sv.name low high g list ns rest
  segments_end e =
      let r = none (λ one. one ≡ sv.name ∷ []) (Fits g) dl dh segment_full (subst (λ l. Fits (seg sv dl dh g) (map named l)) e s.there) in
      segment_built r.0 (subst (λ l. Fits g (map named l)) (sym e) r.1)

  pub segments_stop : (i : ℕ) (w : List ℕ) → rest ≡ i ∷ w → (has_room dh && bytes_eq sv.name (named i) ≡ false) → BuiltSegments named sv.name low high g list ns rest
  segments_stop i w e no_more =
      let r = stop (λ one. one ≡ sv.name ∷ []) (Fits g) (λ x. x ≡ sv.name) segment_full segment_first dl dh segment_apart (named i) (map named w)
      (λ b f. let yes : has_room dh && bytes_eq sv.name (named i) ≡ true = and_of _ _ (room_no dh b) (equal_names sv.name (named i) (sym f)) in cc)
      (subst (λ l. Fits (seg sv dl dh g) (map named l)) e s.there) in
      segment_built r.0 (subst (λ l. Fits g (map named l)) (sym e) r.1)

  pub segments_more : (i : ℕ) (w : List ℕ) → rest ≡ i ∷ w → (has_room dh && bytes_eq sv.name (named i) ≡ true) → GoingSegments named sv low high g list (ns ++ i ∷ []) (dl - 1) (less dh) w
  segments_more i w e more =
      let p = both (has_room dh) _ more in
      let c = go_on (λ one. one ≡ sv.name ∷ []) (Fits g) (λ x. x ≡ sv.name) segment_full segment_first dl dh segment_apart (named i) (map named w) (room_yes dh p.0) (sym (names_equal sv.name (named i) p.1))
      (subst (λ l. Fits (seg sv dl dh g) (map named l)) e s.there) in
      let behind : c.back ≡ map named w = (let j = c.joined ∙ ap (λ f. f ++ c.back) c.here in cc) in
      record {
        joined = s.joined ∙ ap (λ r. ns ++ r) e ∙ sym (append_assoc ns (i ∷ []) w);
        still = still_more low high (length ns) _ dl dh (length_more ns i) (room_yes dh p.0) s.still;
        here = all_more _ ns i s.here (sym (names_equal sv.name (named i) p.1));
        kept = (less_least dl dh s.kept.0, λ y q i r. s.kept.1 y (below_less dl dh q) i r, s.kept.2);
        there = subst (Fits (seg sv (dl - 1) (less dh) g)) behind c.there;
      }

-- ---- groups

append_many : (named : ℕ → Name) (ts : Trees) (u : Tree) (ch : Forest) (front more : List ℕ) → AreTrees named ts ch front → IsTree named u ch more → AreTrees named (append_trees ts (trees u no_trees)) ch (front ++ more)
append_many named no_trees u ch front more a t = record { front = more; back = []; joined = ap (λ f. f ++ more) a ∙ sym (append-nil more); here = t; there = refl }
append_many named (trees t ts) u ch front more a h =
    record { front = a.front; back = a.back ++ more; joined = ap (λ f. f ++ more) a.joined ∙ append_assoc a.front a.back more; here = a.here; there = append_many named ts u ch a.back more a.there h }

count_more : (ts : Trees) (u : Tree) → count_of (append_trees ts (trees u no_trees)) ≡ suc (count_of ts)
count_more no_trees u = refl
count_more (trees t ts) u = ap suc (count_more ts u)

module _ (named : ℕ → Name) (gv : GroupValue) (low : ℕ) (high : Option ℕ) (ch g : Forest) (list : List ℕ) (ts : Trees) (dl : ℕ) (dh : Option ℕ) (rest : List ℕ) (s : GoingGroups named gv low high ch g list ts dl dh rest) where
  group_full : Fits ch [] → ⊥
  group_full = child_full ch _ s.kept.1 s.kept.3

  group_apart : (x : Name) (w : List Name) → Fits g (x ∷ w) → First ch x → Below dl dh → ⊥
  group_apart x w r f b = s.kept.2 x b f (inl (fits_first g NoName s.kept.4 x w r))

  group_built : dl ≡ 0 → Fits g (map named rest) → BuiltGroups named low high ch g list ts rest
  group_built z f = record { front = s.front; joined = s.joined; least = omega (arith, s.still.least, z); most = still_most low high (count_of ts) dl dh s.kept.0 s.still; here = s.here; there = f }

  pub groups_end : rest ≡ [] → BuiltGroups named low high ch g list ts rest
  groups_end e =
      let r = none (Fits ch) (Fits g) dl dh group_full (subst (λ l. Fits (grp gv dl dh ch g) (map named l)) e s.there) in
      group_built r.0 (subst (λ l. Fits g (map named l)) (sym e) r.1)

  pub groups_stop : (i : ℕ) (w : List ℕ) → rest ≡ i ∷ w → (has_room dh && can_begin ch (named i) ≡ false) → BuiltGroups named low high ch g list ts rest
  groups_stop i w e no_more =
      let r = stop (Fits ch) (Fits g) (First ch) group_full (λ x w h. fits_first ch _ s.kept.3 x w h) dl dh group_apart (named i) (map named w)
      (λ b f. let yes : has_room dh && can_begin ch (named i) ≡ true = and_of _ _ (room_no dh b) ((can_begin_is ch (named i)).1 f) in cc)
      (subst (λ l. Fits (grp gv dl dh ch g) (map named l)) e s.there) in
      group_built r.0 (subst (λ l. Fits g (map named l)) (sym e) r.1)

  -- one more occurrence, built from the front of the rest
  inner : (i : ℕ) (w : List ℕ) → rest ≡ i ∷ w → (has_room dh && can_begin ch (named i) ≡ true) → (u : Tree) (behind : List ℕ) → Builds named ch rest u behind → Built named ch (grp gv (dl - 1) (less dh) ch g) rest u behind
  inner i w e more u behind built =
      let p = both (has_room dh) _ more in
      let c = go_on (Fits ch) (Fits g) (First ch) group_full (λ x w h. fits_first ch _ s.kept.3 x w h) dl dh group_apart (named i) (map named w) (room_yes dh p.0) ((can_begin_is ch (named i)).0 p.1)
      (subst (λ l. Fits (grp gv dl dh ch g) (map named l)) e s.there) in
      built (grp gv (dl - 1) (less dh) ch g)
      (well_joined ch (grp gv (dl - 1) (less dh) ch g) NoName (narrow ch _ _ (behind_left NoName (named i) gv dh ch g dl) s.kept.3) (well_left NoName (named i) gv dh ch g dl s.kept))
      (join_fits ch (grp gv (dl - 1) (less dh) ch g) _ (subst (λ l. Cut (Fits ch) (Fits (grp gv (dl - 1) (less dh) ch g)) (map named l)) (sym e) c))

  pub groups_more : (i : ℕ) (w : List ℕ) → rest ≡ i ∷ w → (has_room dh && can_begin ch (named i) ≡ true) → (u : Tree) (behind : List ℕ) → Builds named ch rest u behind → GoingGroups named gv low high ch g list (append_trees ts (trees u no_trees)) (dl - 1) (less dh) behind
  groups_more i w e more u behind built =
      let b = inner i w e more u behind built in
      let p = both (has_room dh) _ more in
      record {
        front = s.front ++ b.front;
        joined = s.joined ∙ ap (λ r. s.front ++ r) b.joined ∙ sym (append_assoc s.front b.front behind);
        still = still_more low high (count_of ts) _ dl dh (count_more ts u) (room_yes dh p.0) s.still;
        here = append_many named ts u ch s.front b.front s.here b.here;
        kept = well_left NoName (named i) gv dh ch g dl s.kept;
        there = b.there;
      }

-- ---- nodes

pub segment_nodes : (named : ℕ → Name) (sv : SegmentValue) (list ns rest : List ℕ) → BuildsSegments named sv list ns rest → Builds named (segment sv nothing) list (segments ns leaf) rest
segment_nodes named sv list ns rest h = λ g wf fits. let b = h g wf fits in
    record { front = ns; joined = b.joined; here = (b.least, b.most, b.here, record { front = ns; back = []; joined = sym (append-nil ns); here = refl; there = refl }); there = b.there }

pub group_nodes : (named : ℕ → Name) (gv : GroupValue) (low : ℕ) (high : Option ℕ) (ch : Forest) (list : List ℕ) (ts : Trees) (rest : List ℕ) → BuildsGroups named low high ch list ts rest → Builds named (grp gv low high ch nothing) list (groups ts leaf) rest
group_nodes named gv low high ch list ts rest h = λ g wf fits. let b = h g gv wf fits in
    record { front = b.front; joined = b.joined; here = (b.least, b.most, record { front = b.front; back = []; joined = sym (append-nil b.front); here = b.here; there = refl }); there = b.there }

append_is : (named : ℕ → Name) (t u : Tree) (f h : Forest) (a b : List ℕ) → IsTree named t f a → IsTree named u h b → IsTree named (append_tree t u) (append f h) (a ++ b)
append_is named leaf u nothing h a b x y = subst (IsTree named u h) (ap (λ l. l ++ b) (sym x)) y
append_is named leaf u (segment sv rest) h a b x y = absurd x
append_is named leaf u (group gv ch rest) h a b x y = absurd x
append_is named (segments ns t) u nothing h a b x y = absurd x
append_is named (segments ns t) u (segment sv rest) h a b x y =
    let c = x.3 in
    (x.0, x.1, x.2, record { front = c.front; back = c.back ++ b; joined = ap (λ l. l ++ b) c.joined ∙ append_assoc c.front c.back b; here = c.here; there = append_is named t u rest h c.back b c.there y })
append_is named (segments ns t) u (group gv ch rest) h a b x y = absurd x
append_is named (groups ts t) u nothing h a b x y = absurd x
append_is named (groups ts t) u (segment sv rest) h a b x y = absurd x
append_is named (groups ts t) u (group gv ch rest) h a b x y =
    let c = x.2 in
    (x.0, x.1, record { front = c.front; back = c.back ++ b; joined = ap (λ l. l ++ b) c.joined ∙ append_assoc c.front c.back b; here = c.here; there = append_is named t u rest h c.back b c.there y })

append_node : (n : Node) (f g : Forest) → append (node_forest n f) g ≡ append (node_forest n nothing) (append f g)
append_node (Seg s) f g = refl
append_node (Group' lb u c shape row) f g = refl

node_rest : (n : Node) (f g : Forest) → Determined (append (node_forest n f) g) NoName → Determined (append f g) NoName
node_rest (Seg s) f g w = w.2
node_rest (Group' lb u c shape row) f g w = w.4

pub forest-push : (xs : List Node) (n : Node) → forest (xs ++ n ∷ []) ≡ append (forest xs) (node_forest n nothing)
forest-push [] n = refl
forest-push (Seg s ∷ xs) n = ap (segment (segment_value s)) (forest-push xs n)
forest-push (Group' lb u c shape row ∷ xs) n = ap (group (record { label = lb.items; usage = u; card = c }) (row_forest row)) (forest-push xs n)

node_more : (named : ℕ → Name) (n : Node) (all f later : Forest) (list : List ℕ) (t u : Tree) (rest behind : List ℕ) → GoNodes named all f (node_forest n later) list t rest → Builds named (node_forest n nothing) rest u behind → GoNodes named all (append f (node_forest n nothing)) later list (append_tree t u) behind
node_more named n all f later list t u rest behind go built = λ g wf fits.
    let s = go g wf fits in
    let b = built (append later g) (subst (λ k. Determined k NoName) (append_node n later g) s.kept) (subst (λ k. Fits k (map named rest)) (append_node n later g) s.there) in
    record {
      front = s.front ++ b.front;
      joined = s.joined ∙ ap (λ r. s.front ++ r) b.joined ∙ sym (append_assoc s.front b.front behind);
      here = append_is named t u f (node_forest n nothing) s.front b.front s.here b.here;
      kept = node_rest n later g s.kept;
      there = b.there;
    }

cons_at : {X : Type 0} (xs : List X) (i : ℕ) (x : X) → i < length xs → x ≡ get_or xs i x → drop i xs ≡ x ∷ drop (i + 1) xs
cons_at xs i x lt at =
    let one : suc i ≡ i + 1 = omega arith in
    drop-cons xs i x lt ∙ ap (λ y. y ∷ drop (suc i) xs) (sym at) ∙ ap (λ j. x ∷ drop j xs) one

-- the nodes of a row so far
pub record Going (named : ℕ → Name) (listed : List ℕ) (all : List Node) (i : ℕ) (list : List ℕ) (x : Found) (rest : List ℕ) : Type 0 where
  pub up_to : IsUpTo i x
  pub ordered : AreOrdered (kept x) 0 (forest (take i all))
  pub built : GoNodes named (forest all) (forest (take i all)) (forest (drop i all)) list (tree_from listed (kept x) 0 (forest (take i all))) rest

module _ (named : ℕ → Name) (listed : List ℕ) (all : List Node) (list : List ℕ) where
  pub nodes_more : (i : ℕ) (node : Node) (x y : Found) (one : Option Occurrences) (rest behind : List ℕ) → i < length all → node ≡ get_or all i node
      → IsUpTo (i + 1) y → kept y i ≡ one → ((k : ℕ) → k < i → kept y k ≡ kept x k)
      → Going named listed all i list x rest → Builds named (node_forest node nothing) rest (one_tree listed (λ _. one) 0 node) behind → AreOrdered (λ _. one) 0 (node_forest node nothing)
      → Going named listed all (i + 1) list y behind
  nodes_more i node x y one rest behind lt at up here before go built ordered = record {
    up_to = up;
    ordered = subst (λ l. AreOrdered (kept y) 0 (forest l)) (sym more) (push_ordered (kept y) 0 i (take i all) node long
        (same_ordered (kept x) (kept y) 0 (take i all) same go.ordered) (one_ordered (λ _. one) (kept y) 0 i node (sym here) ordered));
    built = subst (λ f. GoNodes named (forest all) f (forest (drop (i + 1) all)) list (tree_from listed (kept y) 0 f) behind) (sym (ap forest more))
        (subst (λ f. GoNodes named (forest all) f (forest (drop (i + 1) all)) list (tree_from listed (kept y) 0 (forest (take i all ++ node ∷ []))) behind) (sym (forest-push (take i all) node))
        (subst (λ t. GoNodes named (forest all) (append (forest (take i all)) (node_forest node nothing)) (forest (drop (i + 1) all)) list t behind) (sym tree) step));
  }
    where
      more : take (i + 1) all ≡ take i all ++ node ∷ []
      more = take_more all i node lt ∙ ap (λ n. take i all ++ n ∷ []) (sym at)

      long : i ≡ 0 + length (take i all)
      long = omega (arith, length-take-le i all (omega (arith, lt)))

      same : (k : ℕ) → 0 ≤ k → k < 0 + length (take i all) → kept x k ≡ kept y k
      same k le below = sym (before k (omega (arith, below, long)))

      tree : tree_from listed (kept y) 0 (forest (take i all ++ node ∷ [])) ≡ append_tree (tree_from listed (kept x) 0 (forest (take i all))) (one_tree listed (λ _. one) 0 node)
      tree =
          nodes_push listed (kept y) 0 i (take i all) node long
          ∙ ap (λ t. append_tree t (one_tree listed (kept y) i node)) (sym (nodes_same listed (kept x) (kept y) 0 (take i all) same))
          ∙ ap (append_tree (tree_from listed (kept x) 0 (forest (take i all)))) (one_same listed (kept y) (λ _. one) i 0 node here)

      step : GoNodes named (forest all) (append (forest (take i all)) (node_forest node nothing)) (forest (drop (i + 1) all)) list (append_tree (tree_from listed (kept x) 0 (forest (take i all))) (one_tree listed (λ _. one) 0 node)) behind
      step =
          node_more named node (forest all) (forest (take i all)) (forest (drop (i + 1) all)) list (tree_from listed (kept x) 0 (forest (take i all))) (one_tree listed (λ _. one) 0 node) rest behind
          (subst (λ l. GoNodes named (forest all) (forest (take i all)) (forest l) list (tree_from listed (kept x) 0 (forest (take i all))) rest) (cons_at all i node lt at) go.built) built

pub nodes_end : (named : ℕ → Name) (all : List Node) (i : ℕ) (list : List ℕ) (t : Tree) (rest : List ℕ) → length all ≤ i → GoNodes named (forest all) (forest (take i all)) (forest (drop i all)) list t rest → Builds named (forest all) list t rest
nodes_end named all i list t rest le go = λ g wf fits.
    let s = go g wf fits in
    let whole : take i all ≡ all = grind (arith, common_steps) in
    let past : drop i all ≡ [] = grind (arith, common_steps) in
    record {
      front = s.front;
      joined = s.joined;
      here = subst (λ l. IsTree named t (forest l) s.front) whole s.here;
      there = subst (λ l. Fits (append (forest l) g) (map named rest)) past s.there;
    }

pub nodes_init : (named : ℕ → Name) (all : List Node) (list : List ℕ) → GoNodes named (forest all) nothing (forest all) list leaf list
nodes_init named all list = λ g wf fits. record { front = []; joined = refl; here = refl; kept = wf; there = fits }

module _ (named : ℕ → Name) (listed : List ℕ) (all : List Node) (list : List ℕ) where
  pub nodes_over : (i : ℕ) (x : Found) (rest : List ℕ) → length all ≤ i → Going named listed all i list x rest → Builds named (forest all) list (tree_of listed (forest all) x) rest × IsOrdered (forest all) x
  nodes_over i x rest le go =
      let whole : take i all ≡ all = grind (arith, common_steps) in (
        nodes_end named all i list (tree_of listed (forest all) x) rest le
            (subst (λ l. GoNodes named (forest all) (forest (take i all)) (forest (drop i all)) list (tree_from listed (kept x) 0 (forest l)) rest) whole go.built),
        (go.up_to.rising, subst (λ l. AreOrdered (kept x) 0 (forest l)) whole go.ordered),
      )

  pub nodes_begin : (x : Found) → children_of x ≡ [] → Going named listed all 0 list x list
  nodes_begin x bare = record {
    up_to = record { rising = subst Rising (sym bare) tt; below = subst (AllByRecursion (λ (c : Child). c.node < 0)) (sym bare) tt };
    ordered = tt;
    built = nodes_init named all list;
  }

zero_plus : (n : ℕ) → n ≡ 0 + n
zero_plus n = omega arith

pub groups_init : (named : ℕ → Name) (low : ℕ) (high : Option ℕ) (ch : Forest) (list : List ℕ) → GoGroups named low high ch list no_trees low high list
groups_init named low high ch list = λ g gv wf fits. record { front = []; joined = refl; still = record { least = omega arith; room = λ n h. subst (AtMost high) (zero_plus n) h }; here = refl; kept = wf; there = fits }

pub segments_init : (named : ℕ → Name) (sv : SegmentValue) (list : List ℕ) → GoSegments named sv list [] sv.card.min sv.card.max list
segments_init named sv list = λ g wf fits. record { joined = refl; still = record { least = omega arith; room = λ n h. subst (AtMost sv.card.max) (zero_plus n) h }; here = tt; kept = wf; there = fits }

tree_nonempty : (named : ℕ → Name) (gv : GroupValue) (low : ℕ) (high : Option ℕ) (ch g : Forest) (list : List ℕ) (ts : Trees) (dl : ℕ) (dh : Option ℕ) (rest : List ℕ) (s : GoingGroups named gv low high ch g list ts dl dh rest) (u : Tree) (behind : List ℕ) (b : Built named ch (grp gv (dl - 1) (less dh) ch g) rest u behind) → length rest ≤ length behind → ⊥
tree_nonempty named gv low high ch g list ts dl dh rest s u behind b long =
    group_full named gv low high ch g list ts dl dh rest s (subst (λ l. Fits ch (map named l)) (empty b.front b.joined) (tree_fits named u ch b.front b.here))
  where
    empty : (front : List ℕ) → rest ≡ front ++ behind → front ≡ []
    empty [] e = refl
    empty (x ∷ front) e = absurd (omega (arith, ap length e, length-append front behind, long))

pub groups_stuck : (named : ℕ → Name) (gv : GroupValue) (low : ℕ) (high : Option ℕ) (ch g : Forest) (list : List ℕ) (ts : Trees) (dl : ℕ) (dh : Option ℕ) (rest : List ℕ) (s : GoingGroups named gv low high ch g list ts dl dh rest) (i : ℕ) (w : List ℕ) → rest ≡ i ∷ w → (has_room dh && can_begin ch (named i) ≡ true) → (u : Tree) (behind : List ℕ) → Builds named ch rest u behind → length rest ≤ length behind → ⊥
groups_stuck named gv low high ch g list ts dl dh rest s i w e more u behind built long =
    tree_nonempty named gv low high ch g list ts dl dh rest s u behind (inner named gv low high ch g list ts dl dh rest s i w e more u behind built) long

-- ---- the program's steps

module _ (listed : List ℕ) (here : ℕ) where
  pub none_left : length listed ≤ here → drop here listed ≡ []
  none_left le = grind (arith, common_steps)

  -- what was passed from one place up to another, and one more
  pub one_passed : (at n : ℕ) → at ≤ here → here < length listed → n ≡ get_or listed here n → take (here + 1 - at) (drop at listed) ≡ take (here - at) (drop at listed) ++ n ∷ []
  one_passed at n le lt is =
      let next : here + 1 - at ≡ (here - at) + 1 = omega (arith, le) in
      let there : at + (here - at) ≡ here = omega (arith, le) in
      ap (λ k. take k (drop at listed)) next
      ∙ take_more (drop at listed) (here - at) n (omega (arith, length-drop at listed, lt, le))
      ∙ ap (λ m. take (here - at) (drop at listed) ++ m ∷ []) (get_or-drop at listed (here - at) n ∙ ap (λ k. get_or listed k n) there ∙ sym is)

module _ (named : ℕ → Name) (sv : SegmentValue) (list ns : List ℕ) (dl : ℕ) (dh : Option ℕ) (listed : List ℕ) (here : ℕ) (go : GoSegments named sv list ns dl dh (drop here listed)) where
  pub segments_over : length listed ≤ here → BuildsSegments named sv list ns (drop here listed)
  segments_over le = λ g wf fits. segments_end named sv sv.card.min sv.card.max g list ns dl dh (drop here listed) (go g wf fits) (none_left listed here le)

  module _ (n : ℕ) (lt : here < length listed) (is : n ≡ get_or listed here n) where
    pub segments_stopped : false ≡ (has_room dh && bytes_eq sv.name (named n)) → BuildsSegments named sv list ns (drop here listed)
    segments_stopped no_more = λ g wf fits.
        segments_stop named sv sv.card.min sv.card.max g list ns dl dh (drop here listed) (go g wf fits) n (drop (here + 1) listed) (cons_at listed here n lt is) (sym no_more)

    pub segments_next : (ns' : List ℕ) (dl' : ℕ) (dh' : Option ℕ) → true ≡ (has_room dh && bytes_eq sv.name (named n)) → ns' ≡ ns ++ n ∷ [] → dl' ≡ dl - 1 → dh' ≡ less dh → GoSegments named sv list ns' dl' dh' (drop (here + 1) listed)
    segments_next ns' dl' dh' more grown lower fewer = λ g wf fits.
        let s = segments_more named sv sv.card.min sv.card.max g list ns dl dh (drop here listed) (go g wf fits) n (drop (here + 1) listed) (cons_at listed here n lt is) (sym more) in
        rw (grown, lower, fewer) s

module _ (named : ℕ → Name) (low : ℕ) (high : Option ℕ) (ch : Forest) (list : List ℕ) (ts : Trees) (dl : ℕ) (dh : Option ℕ) (listed : List ℕ) (here : ℕ) (go : GoGroups named low high ch list ts dl dh (drop here listed)) where
  pub groups_over : length listed ≤ here → BuildsGroups named low high ch list ts (drop here listed)
  groups_over le = λ g gv wf fits. groups_end named gv low high ch g list ts dl dh (drop here listed) (go g gv wf fits) (none_left listed here le)

  module _ (n : ℕ) (lt : here < length listed) (is : n ≡ get_or listed here n) where
    pub groups_stopped : false ≡ (has_room dh && can_begin ch (named n)) → BuildsGroups named low high ch list ts (drop here listed)
    groups_stopped no_more = λ g gv wf fits.
        groups_stop named gv low high ch g list ts dl dh (drop here listed) (go g gv wf fits) n (drop (here + 1) listed) (cons_at listed here n lt is) (sym no_more)

    module _ (u : Tree) (behind : ℕ) (more : true ≡ (has_room dh && can_begin ch (named n))) (built : Builds named ch (drop here listed) u (drop behind listed)) where
      pub groups_never : behind ≤ here → BuildsGroups named low high ch list ts (drop here listed)
      groups_never le = λ g gv wf fits.
          absurd (groups_stuck named gv low high ch g list ts dl dh (drop here listed) (go g gv wf fits) n (drop (here + 1) listed) (cons_at listed here n lt is) (sym more) u (drop behind listed) built
          (omega (arith, length-drop here listed, length-drop behind listed, le)))

      pub groups_next : (ts' : Trees) (dl' : ℕ) (dh' : Option ℕ) → ts' ≡ append_trees ts (trees u no_trees) → dl' ≡ dl - 1 → dh' ≡ less dh → GoGroups named low high ch list ts' dl' dh' (drop behind listed)
      groups_next ts' dl' dh' pushed lower fewer = λ g gv wf fits.
          let s = groups_more named gv low high ch g list ts dl dh (drop here listed) (go g gv wf fits) n (drop (here + 1) listed) (cons_at listed here n lt is) (sym more) u (drop behind listed) built in
          rw (pushed, lower, fewer) s

-- ---- a node

module _ (named : ℕ → Name) (listed list rest : List ℕ) (one : Option Occurrences) (node : Node) where
  pub node_of_segment : (s : declared_segment.SegNode) (ns : List ℕ) → node ≡ Seg s → numbers_of listed one ≡ ns → BuildsSegments named (segment_value s) list ns rest → Builds named (node_forest node nothing) list (one_tree listed (λ _. one) 0 node) rest
  node_of_segment s ns is numbers h =
      subst (λ n. Builds named (node_forest n nothing) list (one_tree listed (λ _. one) 0 n) rest) (sym is)
      (subst (λ xs. Builds named (segment (segment_value s) nothing) list (segments xs leaf) rest) (sym numbers) (segment_nodes named (segment_value s) list ns rest h))

  pub segment_ordered : (s : declared_segment.SegNode) → node ≡ Seg s → AreOrdered (λ _. one) 0 (node_forest node nothing)
  segment_ordered s is = subst (λ n. AreOrdered (λ _. one) 0 (node_forest n nothing)) (sym is) tt

  module _ (s : declared_group.GroupNode) (children : List Node) (is : node ≡ Group s) (items : children ≡ s.nodes.items) where
    as_group : node_forest node nothing ≡ group (value_of s) (forest children) nothing
    as_group = ap (λ n. node_forest n nothing) is ∙ forest_group s nothing ∙ ap (λ l. group (value_of s) (forest l) nothing) (sym items)

    pub node_of_group : BuildsGroups named s.card.min s.card.max (forest children) list (trees_of listed (forest children) (found_of one)) rest → Builds named (node_forest node nothing) list (one_tree listed (λ _. one) 0 node) rest
    node_of_group h =
        subst (λ f. Builds named f list (tree_from listed (λ _. one) 0 f) rest) (sym as_group)
        (group_nodes named (value_of s) s.card.min s.card.max (forest children) list (trees_of listed (forest children) (found_of one)) rest h)

    pub group_ordered : AllByRecursion (IsOrdered (forest children)) (found_of one) → AreOrdered (λ _. one) 0 (node_forest node nothing)
    group_ordered a = subst (AreOrdered (λ _. one) 0) (sym as_group) (a, tt)

-- where the whole list fits, the tree is the cut of all of it
pub whole_built : (named : ℕ → Name) (f : Forest) (list : List ℕ) (t : Tree) (rest : List ℕ) → Determined f NoName → Fits f (map named list) → Builds named f list t rest → IsTree named t f list
whole_built named f list t rest wf fits h =
    let b = h nothing (subst (λ g. Determined g NoName) (sym (append_nothing f)) wf) (subst (λ g. Fits g (map named list)) (sym (append_nothing f)) fits) in
    subst (IsTree named t f) (sym (b.joined ∙ ap (λ l. b.front ++ l) (no_more rest b.there) ∙ append-nil b.front)) b.here
  where
    no_more : (l : List ℕ) → map named l ≡ [] → l ≡ []
    no_more [] e = refl
    no_more (x ∷ l) e = absurd (cc)
