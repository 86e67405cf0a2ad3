-- A list that fits has one tree.
use Rattle.gw_profile.specs.Shapes.{SegmentValue, GroupValue}
use Rattle.std.proofs.Common.{◌≡◌, ℕ, suc, ◌+◌, ◌<◌, ◌≤◌, ◌⊎◌, inl, inr, List, [], ◌∷◌, ◌++◌, Option, Some, None, refl, sym, ap, ◌∙◌, subst, arith, append_assoc, length, map}
use Rattle.std.specs.List.{AllByRecursion}
use Rattle.gw_profile.specs.Shapes.{Forest, nothing, segment, group}
use Rattle.gw_validate.specs.Cuts.{Many, Fits}
use Rattle.gw_validate.specs.Trees.{Tree, leaf, segments, groups, Trees, no_trees, trees, count_of, IsTree, AreTrees}
use Rattle.gw_validate.specs.own.Residual.{seg, grp}
use Rattle.gw_validate.proofs.Step.{fits_first, empty_fits, child_full}
use Rattle.gw_profile.specs.Deterministic.{Name, AtMost, Below, First, Follows, Apart, Determined}

module _ (named : ℕ → Name) where
  all_named : (name : Name) (ns : List ℕ) → AllByRecursion (λ i. named i ≡ name) ns → Many (λ one. one ≡ name ∷ []) (length ns) (map named ns)
  all_named name [] a = refl
  all_named name (i ∷ ns) a = record { front = named i ∷ []; back = map named ns; joined = refl; here = ap (λ x. x ∷ []) a.0; there = all_named name ns a.1 }

  map_joined : (l a b : List ℕ) → l ≡ a ++ b → map named l ≡ map named a ++ map named b
  map_joined l [] b e = ap (map named) e
  map_joined l (x ∷ a) b e = ap (map named) e ∙ ap (λ w. named x ∷ w) (map_joined (a ++ b) a b refl)

  mutual
    -- what has a tree fits
    pub tree_fits : (t : Tree) (f : Forest) (l : List ℕ) → IsTree named t f l → Fits f (map named l)
    tree_fits leaf nothing l h = ap (map named) h
    tree_fits (segments k t) (segment sv rest) l h =
        record { front = map named h.3.front; back = map named h.3.back; joined = map_joined l h.3.front h.3.back h.3.joined; here = (length k, h.0, h.1, subst (λ w. Many (λ one. one ≡ sv.name ∷ []) (length k) (map named w)) (sym h.3.here) (all_named sv.name k h.2)); there = tree_fits t rest h.3.back h.3.there }
    tree_fits (groups ts t) (group gv ch rest) l h =
        record { front = map named h.2.front; back = map named h.2.back; joined = map_joined l h.2.front h.2.back h.2.joined; here = (count_of ts, h.0, h.1, trees_fit ts ch h.2.front h.2.here); there = tree_fits t rest h.2.back h.2.there }
    tree_fits leaf (segment sv rest) l h = absurd h
    tree_fits leaf (group gv ch rest) l h = absurd h
    tree_fits (segments k t) nothing l h = absurd h
    tree_fits (segments k t) (group gv ch rest) l h = absurd h
    tree_fits (groups ts t) nothing l h = absurd h
    tree_fits (groups ts t) (segment sv rest) l h = absurd h

    pub trees_fit : (ts : Trees) (f : Forest) (l : List ℕ) → AreTrees named ts f l → Many (Fits f) (count_of ts) (map named l)
    trees_fit no_trees f l h = ap (map named) h
    trees_fit (trees t ts) f l h =
        record { front = map named h.front; back = map named h.back; joined = map_joined l h.front h.back h.joined; here = tree_fits t f h.front h.here; there = trees_fit ts f h.back h.there }

  -- what can stand behind: nothing, or a name of these first
  abbrev pub Tail : (Name → Type 0) → List ℕ → Type 0
  Tail A [] = Unit {0}
  Tail A (x ∷ w) = A (named x)

  -- what stands behind a list that fits, seen from before it
  tail_of : (f : Forest) (A : Name → Type 0) → Determined f A → (l a : List ℕ) → Fits f (map named l) → Tail A a → Tail (Follows f A) (l ++ a)
  tail_of f A wf [] [] h t = tt
  tail_of f A wf [] (x ∷ a) h t = inr (empty_fits f A wf h, t)
  tail_of f A wf (y ∷ l) a h t = inl (fits_first f A wf (named y) (map named l) h)

  data Compares (n : Name) (ks js p q : List ℕ) : Type 0 where
    same : ks ≡ js → p ≡ q → Compares n ks js p q
    fewer : length ks < length js → (i : ℕ) → named i ≡ n → (w : List ℕ) → p ≡ i ∷ w → Compares n ks js p q
    more : length js < length ks → (i : ℕ) → named i ≡ n → (w : List ℕ) → q ≡ i ∷ w → Compares n ks js p q

  compares : (n : Name) (ks js p q : List ℕ) → AllByRecursion (λ i. named i ≡ n) ks → AllByRecursion (λ i. named i ≡ n) js → ks ++ p ≡ js ++ q → Compares n ks js p q
  compares n [] [] p q a b e = same refl e
  compares n [] (j ∷ js) p q a b e = fewer (omega arith) j b.0 (js ++ q) e
  compares n (k ∷ ks) [] p q a b e = more (omega arith) k a.0 (ks ++ p) (sym e)
  compares n (k ∷ ks) (j ∷ js) p q a b e =
      let first : k ≡ j = cc in
      elim (compares n ks js p q a.1 b.1 (cc)) [
        | same c d ↦ same (ap (λ l. k ∷ l) c ∙ ap (λ i. i ∷ js) first) d
        | fewer c i m w d ↦ fewer (omega arith) i m w d
        | more c i m w d ↦ more (omega arith) i m w d
      ]

  below : (high : Option ℕ) (low k j : ℕ) → low ≤ k → k < j → AtMost high j → Below low high
  below None low k j a b c = tt
  below (Some m) low k j a b c = omega arith

  at_most_later : (high : Option ℕ) (i n : ℕ) → AtMost high (i + suc n) → AtMost high (suc n)
  at_most_later None i n h = tt
  at_most_later (Some m) i n h = omega arith

  -- the two trees are one, and so are the lists and what stands behind them
  pub record Agrees (T : Type 0) (s t : T) (a b : List ℕ) : Type 0 where
    pub one : s ≡ t
    pub rest : a ≡ b

  abbrev pub Decides : Forest → (Name → Type 0) → Type 0
  Decides f A = (s t : Tree) (l m a b : List ℕ) → l ++ a ≡ m ++ b → IsTree named s f l → IsTree named t f m → Tail A a → Tail A b → Agrees Tree s t a b

  module _ (lo : ℕ) (hi : Option ℕ) (ch : Forest) (B C : Name → Type 0) (decides : Decides ch C) (full : Fits ch [] → ⊥) (first : (x : Name) (w : List Name) → Fits ch (x ∷ w) → First ch x) (apart : Apart lo hi (First ch) B) (inside : (x : Name) → B x ⊎ (Below 1 hi × First ch x) → C x) where
    -- the names behind one occurrence of the group
    behind : (ts : Trees) (l a : List ℕ) → AtMost hi (suc (count_of ts)) → AreTrees named ts ch l → Tail B a → Tail C (l ++ a)
    behind no_trees l a most h t = subst (λ m. Tail C (m ++ a)) (sym h) (widen a t)
      where
        widen : (a : List ℕ) → Tail B a → Tail C a
        widen [] t = tt
        widen (x ∷ a) t = inside (named x) (inl t)
    behind (trees t ts) l a most h tail =
        subst (λ m. Tail C (m ++ a)) (sym h.joined) (begin h.front (tree_fits t ch h.front h.here))
      where
        begin : (u : List ℕ) → Fits ch (map named u) → Tail C ((u ++ h.back) ++ a)
        begin [] f = absurd (full f)
        begin (x ∷ u) f = inside (named x) (inr (below hi 1 1 (suc (count_of (trees t ts))) (omega arith) (omega arith) most, first (named x) (map named u) f))

    clash_first : (u w a : List ℕ) → Fits ch (map named u) → a ≡ u ++ w → Tail B a → Below lo hi → ⊥
    clash_first [] w a f e t b = full f
    clash_first (x ∷ u) w a f e t b = apart (named x) b (first (named x) (map named u) f) (subst (Tail B) e t)

    trees_agree : (ss ts : Trees) (i : ℕ) (l m a b : List ℕ) → lo ≤ i + count_of ss → lo ≤ i + count_of ts → AtMost hi (i + count_of ss) → AtMost hi (i + count_of ts) → l ++ a ≡ m ++ b → AreTrees named ss ch l → AreTrees named ts ch m → Tail B a → Tail B b → Agrees Trees ss ts a b
    trees_agree no_trees no_trees i l m a b p q x y e h k s t =
        record { one = refl; rest = ap (λ z. z ++ a) (sym h) ∙ e ∙ ap (λ z. z ++ b) k }
    trees_agree no_trees (trees u us) i l m a b p q x y e h k s t =
        absurd (clash_first k.front (k.back ++ b) a (tree_fits u ch k.front k.here) (ap (λ z. z ++ a) (sym h) ∙ e ∙ ap (λ z. z ++ b) k.joined ∙ append_assoc k.front k.back b) s (below hi lo (i + 0) (i + suc (count_of us)) p (omega arith) y))
    trees_agree (trees u us) no_trees i l m a b p q x y e h k s t =
        absurd (clash_first h.front (h.back ++ a) b (tree_fits u ch h.front h.here) (ap (λ z. z ++ b) (sym k) ∙ sym e ∙ ap (λ z. z ++ a) h.joined ∙ append_assoc h.front h.back a) t (below hi lo (i + 0) (i + suc (count_of us)) q (omega arith) x))
    trees_agree (trees u us) (trees v vs) i l m a b p q x y e h k s t =
        let e' : h.front ++ (h.back ++ a) ≡ k.front ++ (k.back ++ b) =
        sym (append_assoc h.front h.back a) ∙ ap (λ z. z ++ a) (sym h.joined) ∙ e ∙ ap (λ z. z ++ b) k.joined ∙ append_assoc k.front k.back b in
        let here = decides u v h.front k.front (h.back ++ a) (k.back ++ b) e' h.here k.here (behind us h.back a (at_most_later hi i (count_of us) x) h.there s) (behind vs k.back b (at_most_later hi i (count_of vs) y) k.there t) in
        let there = trees_agree us vs (suc i) h.back k.back a b (omega arith) (omega arith) (subst (AtMost hi) (next (count_of us)) x) (subst (AtMost hi) (next (count_of vs)) y) here.rest h.there k.there s t in
        record { one = ap (λ z. trees z us) here.one ∙ ap (λ z. trees v z) there.one; rest = there.rest }
      where
        next : (n : ℕ) → i + suc n ≡ suc i + n
        next n = omega arith

  module _ (sv : SegmentValue) (lo : ℕ) (hi : Option ℕ) (rest : Forest) (A : Name → Type 0) (wf : Determined (seg sv lo hi rest) A) (decides : Decides rest A) where
    segments_agree : (k j : List ℕ) (s t : Tree) (l m a b : List ℕ) → l ++ a ≡ m ++ b → IsTree named (segments k s) (seg sv lo hi rest) l → IsTree named (segments j t) (seg sv lo hi rest) m → Tail A a → Tail A b → Agrees Tree (segments k s) (segments j t) a b
    segments_agree k j s t l m a b e h i v w =
        elim (compares sv.name k j (h.3.back ++ a) (i.3.back ++ b) h.2 i.2 start) [
          | same c d ↦ (let u = decides s t h.3.back i.3.back a b d h.3.there i.3.there v w in record { one = ap (λ z. segments z s) c ∙ ap (λ z. segments j z) u.one; rest = u.rest })
          | fewer c x y z d ↦ absurd (wf.1 (named x) (below hi lo (length k) (length j) h.0 c i.1) y (subst (Tail (Follows rest A)) d (tail_of rest A wf.2 h.3.back a (tree_fits s rest h.3.back h.3.there) v)))
          | more c x y z d ↦ absurd (wf.1 (named x) (below hi lo (length j) (length k) i.0 c h.1) y (subst (Tail (Follows rest A)) d (tail_of rest A wf.2 i.3.back b (tree_fits t rest i.3.back i.3.there) w)))
        ]
      where
        start : k ++ (h.3.back ++ a) ≡ j ++ (i.3.back ++ b)
        start =
            ap (λ z. z ++ (h.3.back ++ a)) (sym h.3.here) ∙ sym (append_assoc h.3.front h.3.back a) ∙ ap (λ z. z ++ a) (sym h.3.joined)
            ∙ e ∙ ap (λ z. z ++ b) i.3.joined ∙ append_assoc i.3.front i.3.back b ∙ ap (λ z. z ++ (i.3.back ++ b)) i.3.here

  module _ (gv : GroupValue) (lo : ℕ) (hi : Option ℕ) (ch rest : Forest) (A : Name → Type 0) (wf : Determined (grp gv lo hi ch rest) A) (decides_child : Decides ch (λ x. Follows rest A x ⊎ (Below 1 hi × First ch x))) (decides : Decides rest A) where
    groups_agree : (ss ts : Trees) (s t : Tree) (l m a b : List ℕ) → l ++ a ≡ m ++ b → IsTree named (groups ss s) (grp gv lo hi ch rest) l → IsTree named (groups ts t) (grp gv lo hi ch rest) m → Tail A a → Tail A b → Agrees Tree (groups ss s) (groups ts t) a b
    groups_agree ss ts s t l m a b e h i v w =
        let start : h.2.front ++ (h.2.back ++ a) ≡ i.2.front ++ (i.2.back ++ b) =
        sym (append_assoc h.2.front h.2.back a) ∙ ap (λ z. z ++ a) (sym h.2.joined) ∙ e ∙ ap (λ z. z ++ b) i.2.joined ∙ append_assoc i.2.front i.2.back b in
        let parts = trees_agree lo hi ch (Follows rest A) (λ x. Follows rest A x ⊎ (Below 1 hi × First ch x)) decides_child (child_full ch _ wf.1 wf.3) (λ x y. fits_first ch _ wf.3 x y) wf.2 (λ x y. y) ss ts 0 h.2.front i.2.front (h.2.back ++ a) (i.2.back ++ b) (omega (arith, h.0)) (omega (arith, i.0)) (subst (AtMost hi) (zero_first (count_of ss)) h.1) (subst (AtMost hi) (zero_first (count_of ts)) i.1) start h.2.here i.2.here
        (tail_of rest A wf.4 h.2.back a (tree_fits s rest h.2.back h.2.there) v) (tail_of rest A wf.4 i.2.back b (tree_fits t rest i.2.back i.2.there) w) in
        let u = decides s t h.2.back i.2.back a b parts.rest h.2.there i.2.there v w in
        record { one = ap (λ z. groups z s) parts.one ∙ ap (λ z. groups ts z) u.one; rest = u.rest }
      where
        zero_first : (n : ℕ) → n ≡ 0 + n
        zero_first n = omega arith

  pub unique : (f : Forest) (A : Name → Type 0) → Determined f A → Decides f A
  unique nothing A wf leaf leaf l m a b e h k s t =
      record { one = refl; rest = ap (λ z. z ++ a) (sym h) ∙ e ∙ ap (λ z. z ++ b) k }
  unique nothing A wf leaf (segments _ _) l m a b e h k s t = absurd k
  unique nothing A wf leaf (groups _ _) l m a b e h k s t = absurd k
  unique nothing A wf (segments _ _) _ l m a b e h k s t = absurd h
  unique nothing A wf (groups _ _) _ l m a b e h k s t = absurd h
  unique (segment sv rest) A wf (segments k s) (segments j t) l m a b e h i v w =
      segments_agree sv sv.card.min sv.card.max rest A wf (unique rest A wf.2) k j s t l m a b e h i v w
  unique (segment sv rest) A wf (segments _ _) leaf l m a b e h i v w = absurd i
  unique (segment sv rest) A wf (segments _ _) (groups _ _) l m a b e h i v w = absurd i
  unique (segment sv rest) A wf leaf _ l m a b e h i v w = absurd h
  unique (segment sv rest) A wf (groups _ _) _ l m a b e h i v w = absurd h
  unique (group gv ch rest) A wf (groups ss s) (groups ts t) l m a b e h i v w =
      groups_agree gv gv.card.min gv.card.max ch rest A wf (unique ch _ wf.3) (unique rest A wf.4) ss ts s t l m a b e h i v w
  unique (group gv ch rest) A wf (groups _ _) leaf l m a b e h i v w = absurd i
  unique (group gv ch rest) A wf (groups _ _) (segments _ _) l m a b e h i v w = absurd i
  unique (group gv ch rest) A wf leaf _ l m a b e h i v w = absurd h
  unique (group gv ch rest) A wf (segments _ _) _ l m a b e h i v w = absurd h

  -- one list has one tree
  pub one_tree : (f : Forest) (A : Name → Type 0) → Determined f A → (s t : Tree) (l : List ℕ) → IsTree named s f l → IsTree named t f l → s ≡ t
  one_tree f A wf s t l h k = (unique f A wf s t l l [] [] refl h k tt tt).one
