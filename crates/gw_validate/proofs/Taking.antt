-- Trees with one segment more in front: the segment that takes a name.
use Rattle.std.proofs.Common.{◌≡◌, ℕ, zero, suc, ◌-◌, true, List, [], ◌∷◌, ◌++◌, Option, Some, None, refl, sym, ap, ◌∙◌, subst, arith, append_assoc, length, map}
use Rattle.std.specs.List.{AllByRecursion}
use denote.Ref.{Bor}
use Rattle.gw_profile.specs.declared.shape.FieldShape.{FieldShape}
use Rattle.gw_profile.specs.Shapes.{Forest, nothing, segment, group, SegmentValue, GroupValue, FieldValue}
use Rattle.gw_profile.specs.Deterministic.{Name, AtMost, Optional}
use Rattle.gw_validate.specs.Trees.{Tree, leaf, segments, groups, Trees, no_trees, trees, count_of, IsTree, assigned, assigned_all}
use Rattle.gw_validate.specs.own.Least.{ShapeRises, EachRises}
use Rattle.gw_validate.specs.own.Residual.{less, append, has_room, seg, grp}
use Rattle.gw_validate.specs.own.Taking.{Assigned, Takes, TakesAll, shape_of, paired, Suits}

at_most_none : (high : Option ℕ) → AtMost high 0
at_most_none None = tt
at_most_none (Some m) = omega arith

at_most_next : (high : Option ℕ) (j : ℕ) → has_room high ≡ true → AtMost (less high) j → AtMost high (suc j)
at_most_next None j room h = tt
at_most_next (Some zero) j room h = absurd (cc)
at_most_next (Some (suc m)) j room h = omega arith

-- ---- a tree of joined forests

record Parts (named : ℕ → Name) (f h : Forest) (l : List ℕ) (t : Tree) : Type 0 where
  front : List ℕ
  back : List ℕ
  joined : l ≡ front ++ back
  here : Tree
  there : Tree
  is_here : IsTree named here f front
  is_there : IsTree named there h back
  pairs : assigned t (append f h) ≡ assigned here f ++ assigned there h

module _ (named : ℕ → Name) where
  parts : (f h : Forest) (l : List ℕ) (t : Tree) → IsTree named t (append f h) l → Parts named f h l t
  parts nothing h l t is =
      record { front = []; back = l; joined = refl; here = leaf; there = t; is_here = refl; is_there = is; pairs = refl }
  parts (segment s rest) h l leaf is = absurd is
  parts (segment s rest) h l (groups ts t) is = absurd is
  parts (segment s rest) h l (segments ns t) is =
      let c = is.3 in
      let p = parts rest h c.back t c.there in
      record {
        front = c.front ++ p.front;
        back = p.back;
        joined = c.joined ∙ ap (λ b. c.front ++ b) p.joined ∙ sym (append_assoc c.front p.front p.back);
        here = segments ns p.here;
        there = p.there;
        is_here = (is.0, is.1, is.2, record { front = c.front; back = p.front; joined = refl; here = c.here; there = p.is_here });
        is_there = p.is_there;
        pairs = ap (λ b. map (λ i. (i, s.fields)) ns ++ b) p.pairs ∙ sym (append_assoc (map (λ i. (i, s.fields)) ns) (assigned p.here rest) (assigned p.there h));
      }
  parts (group g nodes rest) h l leaf is = absurd is
  parts (group g nodes rest) h l (segments ns t) is = absurd is
  parts (group g nodes rest) h l (groups ts t) is =
      let c = is.2 in
      let p = parts rest h c.back t c.there in
      record {
        front = c.front ++ p.front;
        back = p.back;
        joined = c.joined ∙ ap (λ b. c.front ++ b) p.joined ∙ sym (append_assoc c.front p.front p.back);
        here = groups ts p.here;
        there = p.there;
        is_here = (is.0, is.1, record { front = c.front; back = p.front; joined = refl; here = c.here; there = p.is_here });
        is_there = p.is_there;
        pairs = ap (λ b. assigned_all ts nodes ++ b) p.pairs ∙ sym (append_assoc (assigned_all ts nodes) (assigned p.here rest) (assigned p.there h));
      }

  join : (f h : Forest) (a b : List ℕ) (t u : Tree) → IsTree named t f a → IsTree named u h b → Assigned named (append f h) (a ++ b) (assigned t f ++ assigned u h)
  join nothing h a b leaf u is iu =
      record { tree = u; is = subst (λ (l : List ℕ). IsTree named u h (l ++ b)) (sym is) iu; pairs_are = refl }
  join nothing h a b (segments ns t) u is iu = absurd is
  join nothing h a b (groups ts t) u is iu = absurd is
  join (segment s rest) h a b leaf u is iu = absurd is
  join (segment s rest) h a b (groups ts t) u is iu = absurd is
  join (segment s rest) h a b (segments ns t) u is iu =
      let c = is.3 in
      let j = join rest h c.back b t u c.there iu in
      record {
        tree = segments ns j.tree;
        is = (is.0, is.1, is.2, record { front = c.front; back = c.back ++ b; joined = ap (λ l. l ++ b) c.joined ∙ append_assoc c.front c.back b; here = c.here; there = j.is });
        pairs_are = ap (λ l. map (λ i. (i, s.fields)) ns ++ l) j.pairs_are ∙ sym (append_assoc (map (λ i. (i, s.fields)) ns) (assigned t rest) (assigned u h));
      }
  join (group g nodes rest) h a b leaf u is iu = absurd is
  join (group g nodes rest) h a b (segments ns t) u is iu = absurd is
  join (group g nodes rest) h a b (groups ts t) u is iu =
      let c = is.2 in
      let j = join rest h c.back b t u c.there iu in
      record {
        tree = groups ts j.tree;
        is = (is.0, is.1, record { front = c.front; back = c.back ++ b; joined = ap (λ l. l ++ b) c.joined ∙ append_assoc c.front c.back b; here = c.here; there = j.is });
        pairs_are = ap (λ l. assigned_all ts nodes ++ l) j.pairs_are ∙ sym (append_assoc (assigned_all ts nodes) (assigned t rest) (assigned u h));
      }

-- ---- what takes a name

pub takes_segment : (s : SegmentValue) (low low' : ℕ) (high high' : Option ℕ) (rest : Forest) (x : Name) → has_room high ≡ true → s.name ≡ x → low' ≡ low - 1 → high' ≡ less high → Takes (seg s low high rest) x s.fields (seg s low' high' rest)
takes_segment s low low' high high' rest x room here min max named i l leaf at is = absurd is
takes_segment s low low' high high' rest x room here min max named i l (groups ts t) at is = absurd is
takes_segment s low low' high high' rest x room here min max named i l (segments ns t) at is =
    let c = is.3 in
    record {
      tree = segments (i ∷ ns) t;
      is = (
        omega (arith, is.0, min),
        at_most_next high (length ns) room (subst (λ (o : Option ℕ). AtMost o (length ns)) max is.1),
        (at ∙ sym here, is.2),
        record { front = i ∷ c.front; back = c.back; joined = ap (λ k. i ∷ k) c.joined; here = ap (λ k. i ∷ k) c.here; there = c.there },
      );
      pairs_are = refl;
    }

pub takes_group : (g : GroupValue) (low low' : ℕ) (high high' : Option ℕ) (nodes rest inner : Forest) (x : Name) (shape : List FieldValue) → has_room high ≡ true → low' ≡ low - 1 → high' ≡ less high → Takes nodes x shape inner → Takes (grp g low high nodes rest) x shape (append inner (grp g low' high' nodes rest))
takes_group g low low' high high' nodes rest inner x shape room min max takes named i l t at is =
    let p = parts named inner (grp g low' high' nodes rest) l t is in
    let one = takes named i p.front p.here at p.is_here in
    ap_joined p one (with_one p.back p.there p.is_there (i ∷ p.front) one.tree one.is)
  where
    with_one : (b : List ℕ) (u : Tree) → IsTree named u (grp g low' high' nodes rest) b → (a : List ℕ) (first : Tree) → IsTree named first nodes a
        → Assigned named (grp g low high nodes rest) (a ++ b) (assigned first nodes ++ assigned u (grp g low' high' nodes rest))
    with_one b leaf iu a first ia = absurd iu
    with_one b (segments ns u) iu a first ia = absurd iu
    with_one b (groups ts u) iu a first ia =
        let c = iu.2 in
        record {
          tree = groups (trees first ts) u;
          is = (
            omega (arith, iu.0, min),
            at_most_next high (count_of ts) room (subst (λ (o : Option ℕ). AtMost o (count_of ts)) max iu.1),
            record { front = a ++ c.front; back = c.back; joined = ap (λ k. a ++ k) c.joined ∙ sym (append_assoc a c.front c.back); here = record { front = a; back = c.front; joined = refl; here = ia; there = c.here }; there = c.there },
          );
          pairs_are = append_assoc (assigned first nodes) (assigned_all ts nodes) (assigned u rest);
        }

    ap_joined : (p : Parts named inner (grp g low' high' nodes rest) l t) (one : Assigned named nodes (i ∷ p.front) ((i, shape) ∷ assigned p.here inner))
        → Assigned named (grp g low high nodes rest) ((i ∷ p.front) ++ p.back) (assigned one.tree nodes ++ assigned p.there (grp g low' high' nodes rest))
        → Assigned named (grp g low high nodes rest) (i ∷ l) ((i, shape) ∷ assigned t (append inner (grp g low' high' nodes rest)))
    ap_joined p one w = record {
      tree = w.tree;
      is = subst (λ (k : List ℕ). IsTree named w.tree (grp g low high nodes rest) (i ∷ k)) (sym p.joined) w.is;
      pairs_are = w.pairs_are ∙ ap (λ k. k ++ assigned p.there (grp g low' high' nodes rest)) one.pairs_are ∙ ap (λ k. (i, shape) ∷ k) (sym p.pairs);
    }

pub takes_past_segment : (s : SegmentValue) (low : ℕ) (high : Option ℕ) (rest g : Forest) (x : Name) (shape : List FieldValue) → low ≡ 0 → Takes rest x shape g → Takes (seg s low high rest) x shape g
takes_past_segment s low high rest g x shape none takes named i l t at is =
    let one = takes named i l t at is in
    record {
      tree = segments [] one.tree;
      is = (omega (arith, none), at_most_none high, tt, record { front = []; back = i ∷ l; joined = refl; here = refl; there = one.is });
      pairs_are = one.pairs_are;
    }

pub takes_past_group : (v : GroupValue) (low : ℕ) (high : Option ℕ) (nodes rest g : Forest) (x : Name) (shape : List FieldValue) → low ≡ 0 → Takes rest x shape g → Takes (grp v low high nodes rest) x shape g
takes_past_group v low high nodes rest g x shape none takes named i l t at is =
    let one = takes named i l t at is in
    record {
      tree = groups no_trees one.tree;
      is = (omega (arith, none), at_most_none high, record { front = []; back = i ∷ l; joined = refl; here = refl; there = one.is });
      pairs_are = one.pairs_are;
    }

pub takes_join : (f g h : Forest) (x : Name) (shape : List FieldValue) → Takes f x shape g → Takes (append f h) x shape (append g h)
takes_join f g h x shape takes named i l t at is =
    let p = parts named g h l t is in
    let one = takes named i p.front p.here at p.is_here in
    let j = join named f h (i ∷ p.front) p.back one.tree p.there one.is p.is_there in
    record {
      tree = j.tree;
      is = subst (λ (k : List ℕ). IsTree named j.tree (append f h) (i ∷ k)) (sym p.joined) j.is;
      pairs_are = j.pairs_are ∙ ap (λ k. k ++ assigned p.there h) one.pairs_are ∙ ap (λ k. (i, shape) ∷ k) (sym p.pairs);
    }

pub takes_behind : (f g h : Forest) (x : Name) (shape : List FieldValue) → Optional f → Takes h x shape g → Takes (append f h) x shape g
takes_behind nothing g h x shape o takes = takes
takes_behind (segment s rest) g h x shape o takes =
    takes_past_segment s s.card.min s.card.max (append rest h) g x shape o.0 (takes_behind rest g h x shape o.1 takes)
takes_behind (group v nodes rest) g h x shape o takes =
    takes_past_group v v.card.min v.card.max nodes (append rest h) g x shape o.0 (takes_behind rest g h x shape o.1 takes)

-- ---- all names in turn

pub takes_more : (f : Forest) (names : List Name) (shapes : List (Bor (List FieldShape))) (g : Forest) (x : Name) (s : Bor (List FieldShape)) (h : Forest) → TakesAll f names shapes g → Takes g x (shape_of s) h → TakesAll f (names ++ x ∷ []) (shapes ++ s ∷ []) h
takes_more f [] [] g x s h all one = (h, subst (λ (k : Forest). Takes k x (shape_of s) h) (sym all) one, refl)
takes_more f [] (r ∷ shapes) g x s h all one = absurd all
takes_more f (y ∷ names) [] g x s h all one = absurd all
takes_more f (y ∷ names) (r ∷ shapes) g x s h all one = (all.0, all.1, takes_more all.0 names shapes g x s h all.2 one)

takes_same : (f : Forest) (names : List Name) (shapes : List (Bor (List FieldShape))) (g : Forest) → TakesAll f names shapes g → length shapes ≡ length names
takes_same f [] [] g all = refl
takes_same f [] (s ∷ shapes) g all = absurd all
takes_same f (x ∷ names) [] g all = absurd all
takes_same f (x ∷ names) (s ∷ shapes) g all = ap suc (takes_same all.0 names shapes g all.2)

-- a forest that demands nothing has an empty tree
empty_tree : (named : ℕ → Name) (f : Forest) → Optional f → Assigned named f [] []
empty_tree named nothing o = record { tree = leaf; is = refl; pairs_are = refl }
empty_tree named (segment s rest) o =
    let e = empty_tree named rest o.1 in
    record { tree = segments [] e.tree; is = (omega (arith, o.0), at_most_none s.card.max, tt, record { front = []; back = []; joined = refl; here = refl; there = e.is }); pairs_are = e.pairs_are }
empty_tree named (group g nodes rest) o =
    let e = empty_tree named rest o.1 in
    record { tree = groups no_trees e.tree; is = (omega (arith, o.0), at_most_none g.card.max, record { front = []; back = []; joined = refl; here = refl; there = e.is }); pairs_are = e.pairs_are }

takes_assigned : (named : ℕ → Name) (f : Forest) (names : List Name) (shapes : List (Bor (List FieldShape))) (g : Forest) → TakesAll f names shapes g → Optional g → (l : List ℕ) → map named l ≡ names → Assigned named f l (paired l shapes)
takes_assigned named f [] [] g all o [] e = subst (λ (k : Forest). Assigned named k [] []) (sym all) (empty_tree named g o)
takes_assigned named f [] [] g all o (i ∷ l) e = absurd (cc)
takes_assigned named f [] (s ∷ shapes) g all o l e = absurd all
takes_assigned named f (x ∷ names) [] g all o l e = absurd all
takes_assigned named f (x ∷ names) (s ∷ shapes) g all o [] e = absurd (cc)
takes_assigned named f (x ∷ names) (s ∷ shapes) g all o (i ∷ l) e =
    let here : named i ≡ x = cc in
    let behind : map named l ≡ names = cc in
    let r = takes_assigned named all.0 names shapes g all.2 o l behind in
    let one = all.1 named i l r.tree here r.is in
    record { tree = one.tree; is = one.is; pairs_are = one.pairs_are ∙ ap (λ k. (i, shape_of s) ∷ k) r.pairs_are }

pub takes_suit : (f : Forest) (names : List Name) (shapes : List (Bor (List FieldShape))) (g : Forest) → TakesAll f names shapes g → Optional g → Suits f names shapes
takes_suit f names shapes g all o =
    record { same = takes_same f names shapes g all; assigns = λ named l e. takes_assigned named f names shapes g all o l e }

-- ---- the shapes of a tree

all_joined : (P : ℕ × List FieldValue → Type 0) (xs ys : List (ℕ × List FieldValue)) → AllByRecursion P xs → AllByRecursion P ys → AllByRecursion P (xs ++ ys)
all_joined P [] ys a b = b
all_joined P (x ∷ xs) ys a b = (a.0, all_joined P xs ys a.1 b)

-- its numbers rise
abbrev Rise : ℕ × List FieldValue → Type 0
Rise p = ShapeRises p.1

all_of : (ns : List ℕ) (shape : List FieldValue) → ShapeRises shape → AllByRecursion Rise (map (λ (i : ℕ). (i, shape)) ns)
all_of [] shape r = tt
all_of (n ∷ ns) shape r = (r, all_of ns shape r)

mutual
  tree_rises : (t : Tree) (f : Forest) → EachRises f → AllByRecursion Rise (assigned t f)
  tree_rises leaf f r = tt
  tree_rises (segments ns t) nothing r = tt
  tree_rises (segments ns t) (segment s rest) r =
      all_joined Rise (map (λ i. (i, s.fields)) ns) (assigned t rest) (all_of ns s.fields r.0) (tree_rises t rest r.1)
  tree_rises (segments ns t) (group g nodes rest) r = tree_rises t rest r.1
  tree_rises (groups ts t) nothing r = tt
  tree_rises (groups ts t) (segment s rest) r = tree_rises t rest r.1
  tree_rises (groups ts t) (group g nodes rest) r =
      all_joined Rise (assigned_all ts nodes) (assigned t rest) (trees_rise ts nodes r.0) (tree_rises t rest r.1)

  trees_rise : (ts : Trees) (f : Forest) → EachRises f → AllByRecursion Rise (assigned_all ts f)
  trees_rise no_trees f r = tt
  trees_rise (trees t ts) f r = all_joined Rise (assigned t f) (assigned_all ts f) (tree_rises t f r) (trees_rise ts f r)

paired_rise : (l : List ℕ) (shapes : List (Bor (List FieldShape))) → length shapes ≡ length l → AllByRecursion Rise (paired l shapes) → AllByRecursion (λ fields. ShapeRises (shape_of fields)) shapes
paired_rise [] [] e a = tt
paired_rise [] (s ∷ shapes) e a = absurd (omega arith)
paired_rise (i ∷ l) [] e a = tt
paired_rise (i ∷ l) (s ∷ shapes) e a = (a.0, paired_rise l shapes (omega arith) a.1)

pub shapes_rise : (named : ℕ → Name) (f : Forest) (l : List ℕ) (shapes : List (Bor (List FieldShape))) → EachRises f → length shapes ≡ length l → Assigned named f l (paired l shapes) → AllByRecursion (λ fields. ShapeRises (shape_of fields)) shapes
shapes_rise named f l shapes r same a =
    paired_rise l shapes same (subst (AllByRecursion Rise) a.pairs_are (tree_rises a.tree f r))
