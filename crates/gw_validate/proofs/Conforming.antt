-- A list conforms exactly where a tree of it has all segments meet their shapes.
use Rattle.std.proofs.Common.{◌≡◌, ℕ, zero, suc, ◌≤◌, List, [], ◌∷◌, ◌++◌, refl, sym, ap, ◌∙◌, subst, length, map}
use Rattle.std.specs.List.{AllByRecursion}
use Rattle.gw_profile.specs.Shapes.{Forest, nothing, segment, group, FieldValue}
use Rattle.gw_validate.specs.Cuts.{Many}
use Rattle.gw_validate.specs.Trees.{Tree, leaf, segments, groups, Trees, no_trees, trees, count_of, IsTree, AreTrees, assigned, assigned_all, AllMeet, MeetingTree}
use Rattle.gw_validate.specs.Conforming.{One, Seq}
use Rattle.gw_profile.specs.Deterministic.{Name, AtMost}

all_joined : {X : Type 0} (P : X → Type 0) (xs ys : List X) → AllByRecursion P xs → AllByRecursion P ys → AllByRecursion P (xs ++ ys)
all_joined P [] ys a b = b
all_joined P (x ∷ xs) ys a b = (a.0, all_joined P xs ys a.1 b)

all_front : {X : Type 0} (P : X → Type 0) (xs ys : List X) → AllByRecursion P (xs ++ ys) → AllByRecursion P xs
all_front P [] ys a = tt
all_front P (x ∷ xs) ys a = (a.0, all_front P xs ys a.1)

all_back : {X : Type 0} (P : X → Type 0) (xs ys : List X) → AllByRecursion P (xs ++ ys) → AllByRecursion P ys
all_back P [] ys a = a
all_back P (x ∷ xs) ys a = all_back P xs ys a.1

module _ (named : ℕ → Name) (meets : List FieldValue → ℕ → Type 0) where
  record Run (name : Name) (shape : List FieldValue) (k : ℕ) (l : List ℕ) : Type 0 where
    count : length l ≡ k
    names : AllByRecursion (λ i. named i ≡ name) l
    met : AllMeet meets (map (λ i. (i, shape)) l)

  run_more : (name : Name) (shape : List FieldValue) (k : ℕ) (front back : List ℕ) → One named meets name shape front → Run name shape k back → Run name shape (suc k) (front ++ back)
  run_more name shape k [] back o r = absurd o
  run_more name shape k (i ∷ []) back o r = record { count = ap suc r.count; names = (o.0, r.names); met = (o.1, r.met) }
  run_more name shape k (i ∷ j ∷ l) back o r = absurd o

  run_of : (name : Name) (shape : List FieldValue) (k : ℕ) (l : List ℕ) → Many (One named meets name shape) k l → Run name shape k l
  run_of name shape zero l h = subst (Run name shape 0) (sym h) (record { count = refl; names = tt; met = tt })
  run_of name shape (suc k) l h = subst (Run name shape (suc k)) (sym h.joined) (run_more name shape k h.front h.back h.here (run_of name shape k h.back h.there))

  many_of : (name : Name) (shape : List FieldValue) (l : List ℕ) → AllByRecursion (λ i. named i ≡ name) l → AllMeet meets (map (λ i. (i, shape)) l) → Many (One named meets name shape) (length l) l
  many_of name shape [] a m = refl
  many_of name shape (i ∷ l) a m = record { front = i ∷ []; back = l; joined = refl; here = (a.0, m.0); there = many_of name shape l a.1 m.1 }

  record Group (ch : Forest) (k : ℕ) (l : List ℕ) : Type 0 where
    parts : Trees
    count : count_of parts ≡ k
    are : AreTrees named parts ch l
    met : AllMeet meets (assigned_all parts ch)

  group_of : (ch : Forest) → ((l : List ℕ) → Seq named meets ch l → MeetingTree named meets ch l) → (k : ℕ) (l : List ℕ) → Many (Seq named meets ch) k l → Group ch k l
  group_of ch each zero l h = record { parts = no_trees; count = refl; are = h; met = tt }
  group_of ch each (suc k) l h =
      let t = each h.front h.here in
      let r = group_of ch each k h.back h.there in
      record { parts = trees t.tree r.parts; count = ap suc r.count; are = record { front = h.front; back = h.back; joined = h.joined; here = t.is; there = r.are }; met = all_joined _ (assigned t.tree ch) (assigned_all r.parts ch) t.met r.met }

  -- what conforms has a tree
  pub meeting_tree : (f : Forest) (l : List ℕ) → Seq named meets f l → MeetingTree named meets f l
  meeting_tree nothing l h = record { tree = leaf; is = h; met = tt }
  meeting_tree (segment sv rest) l h =
      let r = run_of sv.name sv.fields h.here.0 h.front h.here.3 in
      let t = meeting_tree rest h.back h.there in
      record {
        tree = segments h.front t.tree;
        is = (subst (λ k. sv.card.min ≤ k) (sym r.count) h.here.1, subst (AtMost sv.card.max) (sym r.count) h.here.2, r.names, record { front = h.front; back = h.back; joined = h.joined; here = refl; there = t.is });
        met = all_joined _ (map (λ i. (i, sv.fields)) h.front) (assigned t.tree rest) r.met t.met;
      }
  meeting_tree (group gv ch rest) l h =
      let r = group_of ch (meeting_tree ch) h.here.0 h.front h.here.3 in
      let t = meeting_tree rest h.back h.there in
      record {
        tree = groups r.parts t.tree;
        is = (subst (λ k. gv.card.min ≤ k) (sym r.count) h.here.1, subst (AtMost gv.card.max) (sym r.count) h.here.2, record { front = h.front; back = h.back; joined = h.joined; here = r.are; there = t.is });
        met = all_joined _ (assigned_all r.parts ch) (assigned t.tree rest) r.met t.met;
      }

  mutual
    -- what has such a tree conforms
    pub tree_conforms : (t : Tree) (f : Forest) (l : List ℕ) → IsTree named t f l → AllMeet meets (assigned t f) → Seq named meets f l
    tree_conforms leaf nothing l h m = h
    tree_conforms leaf (segment sv rest) l h m = absurd h
    tree_conforms leaf (group gv ch rest) l h m = absurd h
    tree_conforms (segments ns t) nothing l h m = absurd h
    tree_conforms (segments ns t) (segment sv rest) l h m =
        let c = h.3 in
        record { front = ns; back = c.back; joined = c.joined ∙ ap (λ a. a ++ c.back) c.here; here = (length ns, h.0, h.1, many_of sv.name sv.fields ns h.2 (all_front _ (map (λ i. (i, sv.fields)) ns) (assigned t rest) m)); there = tree_conforms t rest c.back c.there (all_back _ (map (λ i. (i, sv.fields)) ns) (assigned t rest) m) }
    tree_conforms (segments ns t) (group gv ch rest) l h m = absurd h
    tree_conforms (groups ts t) nothing l h m = absurd h
    tree_conforms (groups ts t) (segment sv rest) l h m = absurd h
    tree_conforms (groups ts t) (group gv ch rest) l h m =
        let c = h.2 in
        record { front = c.front; back = c.back; joined = c.joined; here = (count_of ts, h.0, h.1, trees_conform ts ch c.front c.here (all_front _ (assigned_all ts ch) (assigned t rest) m)); there = tree_conforms t rest c.back c.there (all_back _ (assigned_all ts ch) (assigned t rest) m) }

    trees_conform : (ts : Trees) (ch : Forest) (l : List ℕ) → AreTrees named ts ch l → AllMeet meets (assigned_all ts ch) → Many (Seq named meets ch) (count_of ts) l
    trees_conform no_trees ch l h m = h
    trees_conform (trees t ts) ch l h m =
        record { front = h.front; back = h.back; joined = h.joined; here = tree_conforms t ch h.front h.here (all_front _ (assigned t ch) (assigned_all ts ch) m); there = trees_conform ts ch h.back h.there (all_back _ (assigned t ch) (assigned_all ts ch) m) }
