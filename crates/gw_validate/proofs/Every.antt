-- All breaches, level by level.
use Rattle.std.proofs.Common.{◌≡◌, ℕ, zero, suc, ◌-◌, ◌<◌, ◌≤◌, ◌⊎◌, inl, inr, Bool, true, false, List, [], ◌∷◌, ◌++◌, Option, Some, None, refl, sym, ap, ◌∙◌, subst, arith, length, Result}
use Rattle.std.proofs.lemmas.Bool.{cases_lt}
use Rattle.std.proofs.lemmas.Bool.Decides.{eqb_tells}
use Rattle.gw_er7.specs.Message.{Texts, text_of}
use Rattle.gw_er7.specs.Presence.{CompAt, RepAt, FieldAt}
use Rattle.gw_profile.specs.Shapes.{SubValue, CompValue, FieldValue, ProfileValue}
use Rattle.gw_profile.specs.Lengths.{len_count}
use Rattle.gw_validate.specs.Breaches.{Counted, is_required, is_forbidden, is_long, is_unlisted, is_null, SubBreach, sub_absent, sub_forbidden, too_long, not_listed, in_first, in_later, CompBreach, comp_absent, comp_forbidden, in_sub, RepBreach, one_too_many, in_comp, RepsBreach, in_rep, FieldBreach, too_few, field_forbidden, in_reps}
use Rattle.gw_validate.specs.Every.{Before}
use Rattle.gw_validate.specs.own.Gathering.{Under, Only, Gathers, Visits, RepsTo, RepsFrom}
use Rattle.gw_validate.specs.own.Least.{CompRises, FieldRises, SubsBreach, CompsBreach, is_full}
use Rattle.gw_validate.specs.own.Walk.{IsCount, IsShort, IsNextRep}
use Rattle.gw_validate.proofs.Leasts.{counted_once}
use Rattle.gw_validate.proofs.Gathering.{Joins, joins_under, joins_only, visits_only, visits_same, gathers_same, gathers_nothing, under_map, under_in, under_out, any_above}

true_false : true ≡ false → ⊥
true_false e = cc

-- ---- leaves

module _ (profile : ProfileValue) (shape : SubValue) (text : List ℕ) (pre : List ℕ) where
  abbrev S : List ℕ → Type 0
  S = SubBreach profile shape text

  pub absent_leaf : {U E : Type 0} (stopped : List (List ℕ) → List ℕ → E → Type 0) (test : Bool) (a b : List (List ℕ)) (r : Result U E) → length text ≡ 0 → test ≡ is_required shape.usage → Visits stopped (Only test (pre ++ 3 ∷ [])) a b r → Visits stopped (Under pre S) a b r
  absent_leaf stopped test a b r none is = visits_only stopped pre test (3 ∷ []) S to from a b r
    where
      to : (q : List ℕ) → Only test (3 ∷ []) q → S q
      to q o = subst S o.1 (sub_absent (sym is ∙ o.0) none)

      from : (q : List ℕ) → S q → Only test (3 ∷ []) q
      from q (sub_absent r e) = (is ∙ r, refl)
      from q (sub_forbidden f lt) = absurd (omega (arith, lt, none))
      from q (too_long lt n l) = absurd (omega (arith, lt, none))
      from q (not_listed lt n l) = absurd (omega (arith, lt, none))

  module _ (some : length text ≡ 0 → ⊥) where
    -- what a leaf that is present can break beside its usage
    abbrev pub Rest : List ℕ → Type 0
    Rest q = S q × Before (4 ∷ []) q

    pub usage_joins : (test : Bool) → test ≡ is_forbidden shape.usage → Joins (Only test (pre ++ 4 ∷ [])) (Under pre Rest) (Under pre S)
    usage_joins test is = joins_only pre test (4 ∷ []) Rest S (record { order = order; left = left; right = λ q s. s.0; either = either })
      where
        order : (p q : List ℕ) → Only test (4 ∷ []) p → Rest q → Before p q
        order p q o s = subst (λ k. Before k q) o.1 s.1

        left : (q : List ℕ) → Only test (4 ∷ []) q → S q
        left q o = subst S o.1 (sub_forbidden (sym is ∙ o.0) (omega arith))

        either : (q : List ℕ) → S q → Only test (4 ∷ []) q ⊎ Rest q
        either q (sub_absent r e) = absurd (some e)
        either q (sub_forbidden f lt) = inl (is ∙ f, refl)
        either q (too_long lt n l) = inr (too_long lt n l, inl (omega arith))
        either q (not_listed lt n l) = inr (not_listed lt n l, inl (omega arith))

    pub null_rest : is_null text ≡ true → (a : List (List ℕ)) → Gathers (Under pre Rest) a a
    null_rest null a = gathers_nothing pre Rest a none
      where
        none : (q : List ℕ) → Rest q → ⊥
        none q (sub_absent r e, o) = some e
        none q (sub_forbidden f lt, inl less) = omega (arith, less)
        none q (sub_forbidden f lt, inr same) = same.1
        none q (too_long lt n l, o) = true_false (sym null ∙ n)
        none q (not_listed lt n l, o) = true_false (sym null ∙ n)

    -- no value of its table
    abbrev pub Unlisted : List ℕ → Type 0
    Unlisted = Only (is_unlisted profile.tables shape.table text) (7 ∷ [])

    pub long_joins : (test : Bool) → is_null text ≡ false → test ≡ is_long (len_count profile) shape.len text → Joins (Only test (pre ++ 6 ∷ [])) (Under pre Unlisted) (Under pre Rest)
    long_joins test null is = joins_only pre test (6 ∷ []) Unlisted Rest (record { order = order; left = left; right = right; either = either })
      where
        order : (p q : List ℕ) → Only test (6 ∷ []) p → Unlisted q → Before p q
        order p q o u = subst (λ k. Before k q) o.1 (subst (Before (6 ∷ [])) u.1 (inl (omega arith)))

        left : (q : List ℕ) → Only test (6 ∷ []) q → Rest q
        left q o = subst Rest o.1 (too_long (omega arith) null (sym is ∙ o.0), inl (omega arith))

        right : (q : List ℕ) → Unlisted q → Rest q
        right q u = subst Rest u.1 (not_listed (omega arith) null u.0, inl (omega arith))

        either : (q : List ℕ) → Rest q → Only test (6 ∷ []) q ⊎ Unlisted q
        either q (sub_absent r e, o) = absurd (some e)
        either q (sub_forbidden f lt, inl less) = absurd (omega (arith, less))
        either q (sub_forbidden f lt, inr same) = absurd same.1
        either q (too_long lt n l, o) = inl (is ∙ l, refl)
        either q (not_listed lt n l, o) = inr (l, refl)

    pub last_leaf : {U E : Type 0} (stopped : List (List ℕ) → List ℕ → E → Type 0) (test : Bool) (a b : List (List ℕ)) (r : Result U E) → test ≡ is_unlisted profile.tables shape.table text → Visits stopped (Only test (pre ++ 7 ∷ [])) a b r → Visits stopped (Under pre Unlisted) a b r
    last_leaf stopped test a b r is = visits_only stopped pre test (7 ∷ []) Unlisted (λ q o. (sym is ∙ o.0, o.1)) (λ q u. (is ∙ u.0, u.1)) a b r

-- the only leaf of a component, whose text is known
module _ (profile : ProfileValue) (m : Texts) (f r c : ℕ) (x : SubValue) (pre : List ℕ) where
  abbrev At : SubValue → List ℕ → Type 0
  At s = SubBreach profile s (text_of m f r c s.number)

  pub only_texts : {U E : Type 0} (stopped : List (List ℕ) → List ℕ → E → Type 0) (text : List ℕ) (number : ℕ) (subs : List SubValue) (a b : List (List ℕ)) (result : Result U E) → text ≡ text_of m f r c x.number → x.number ≡ number → subs ≡ x ∷ [] → Visits stopped (Under (pre ++ number ∷ []) (SubBreach profile x text)) a b result → Visits stopped (Under pre (SubsBreach profile m f r c subs)) a b result
  only_texts stopped text number subs a b result is at alone v =
      subst (λ (l : List SubValue). Visits stopped (Under pre (SubsBreach profile m f r c l)) a b result) (sym alone)
      (visits_same stopped (Under (pre ++ x.number ∷ []) (At x)) (Under pre (SubsBreach profile m f r c (x ∷ [])))
      (λ q u. under_map pre (Under (x.number ∷ []) (At x)) (SubsBreach profile m f r c (x ∷ [])) to q (under_in pre x.number (At x) q u))
      (λ q u. under_out pre x.number (At x) q (under_map pre (SubsBreach profile m f r c (x ∷ [])) (Under (x.number ∷ []) (At x)) from q u))
      a b result
      (subst (λ (n : ℕ). Visits stopped (Under (pre ++ n ∷ []) (At x)) a b result) (sym at) (subst (λ (t : List ℕ). Visits stopped (Under (pre ++ number ∷ []) (SubBreach profile x t)) a b result) is v)))
    where
      to : (q : List ℕ) → Under (x.number ∷ []) (At x) q → SubsBreach profile m f r c (x ∷ []) q
      to [] u = absurd u
      to (k ∷ q) u = subst (λ (j : ℕ). SubsBreach profile m f r c (x ∷ []) (j ∷ q)) u.0 (in_first u.1)

      from : (q : List ℕ) → SubsBreach profile m f r c (x ∷ []) q → Under (x.number ∷ []) (At x) q
      from q (in_first b) = (refl, b)
      from q (in_later b) = elim b [ ]

-- ---- components

module _ (profile : ProfileValue) (m : Texts) (f r : ℕ) (shape : CompValue) (pre : List ℕ) where
  abbrev C : List ℕ → Type 0
  C = CompBreach profile m f r shape

  pub absent_comp : {U E : Type 0} (stopped : List (List ℕ) → List ℕ → E → Type 0) (test : Bool) (a b : List (List ℕ)) (result : Result U E) → (CompAt m f r shape.number → ⊥) → test ≡ is_required shape.usage → Visits stopped (Only test (pre ++ 0 ∷ 3 ∷ [])) a b result → Visits stopped (Under pre C) a b result
  absent_comp stopped test a b result none is = visits_only stopped pre test (0 ∷ 3 ∷ []) C to from a b result
    where
      to : (q : List ℕ) → Only test (0 ∷ 3 ∷ []) q → C q
      to q o = subst C o.1 (comp_absent (sym is ∙ o.0) none)

      from : (q : List ℕ) → C q → Only test (0 ∷ 3 ∷ []) q
      from q (comp_absent u e) = (is ∙ u, refl)
      from q (comp_forbidden u there) = absurd (none there)
      from q (in_sub there s) = absurd (none there)

  pub comp_joins : (test : Bool) → CompRises shape → CompAt m f r shape.number → test ≡ is_forbidden shape.usage → Joins (Only test (pre ++ 0 ∷ 4 ∷ [])) (Under pre (SubsBreach profile m f r shape.number shape.subs)) (Under pre C)
  comp_joins test rises there is = joins_only pre test (0 ∷ 4 ∷ []) Subs C (record { order = order; left = left; right = λ q i. in_sub there i; either = either })
    where
      Subs : List ℕ → Type 0
      Subs = SubsBreach profile m f r shape.number shape.subs

      order : (p q : List ℕ) → Only test (0 ∷ 4 ∷ []) p → Subs q → Before p q
      order p q o i = subst (λ k. Before k q) o.1 (any_above (λ s. s.number) (λ s. SubBreach profile s (text_of m f r shape.number s.number)) 0 shape.subs rises 0 (4 ∷ []) q (omega arith) i)

      left : (q : List ℕ) → Only test (0 ∷ 4 ∷ []) q → C q
      left q o = subst C o.1 (comp_forbidden (sym is ∙ o.0) there)

      either : (q : List ℕ) → C q → Only test (0 ∷ 4 ∷ []) q ⊎ Subs q
      either q (comp_absent u e) = absurd (e there)
      either q (comp_forbidden u t) = inl (is ∙ u, refl)
      either q (in_sub t i) = inr i

-- ---- repetitions

module _ (profile : ProfileValue) (m : Texts) (shape : FieldValue) (pre : List ℕ) where
  pub rep_joins : (r before : ℕ) (test : Bool) → FieldRises shape → Counted (RepAt m shape.number) (r - 1) before → (test ≡ true → (is_forbidden shape.usage ≡ false) × (is_full shape.card.max before ≡ true)) → (test ≡ false → is_forbidden shape.usage ≡ false → is_full shape.card.max before ≡ true → ⊥) → Joins (Only test (pre ++ 0 ∷ 0 ∷ 5 ∷ [])) (Under pre (CompsBreach profile m shape.number r shape.comps)) (Under pre (RepBreach profile m shape r))
  rep_joins r before test rises counted does stays =
      joins_only pre test (0 ∷ 0 ∷ 5 ∷ []) Comps (RepBreach profile m shape r) (record { order = first; left = to; right = λ q i. in_comp i; either = from })
    where
      Comps : List ℕ → Type 0
      Comps = CompsBreach profile m shape.number r shape.comps

      first : (p q : List ℕ) → Only test (0 ∷ 0 ∷ 5 ∷ []) p → Comps q → Before p q
      first p q o i = subst (λ k. Before k q) o.1 (any_above (λ c. c.number) (CompBreach profile m shape.number r) 0 shape.comps rises.comps 0 (0 ∷ 5 ∷ []) q (omega arith) i)

      most : (o : Option ℕ) → is_full o before ≡ true → o ≡ Some before
      most None e = absurd (cc)
      most (Some k) e = ap Some (elim (eqb_tells k before) [ inl h ↦ h.1 | inr h ↦ absurd (true_false (sym e ∙ h.0)) ])

      full : (k : ℕ) → k ≡ before → is_full (Some k) before ≡ true
      full k e = elim (eqb_tells k before) [ inl h ↦ h.0 | inr h ↦ absurd (h.1 e) ]

      to : (q : List ℕ) → Only test (0 ∷ 0 ∷ 5 ∷ []) q → RepBreach profile m shape r q
      to q o = subst (RepBreach profile m shape r) o.1 (one_too_many (does o.0).0 (most shape.card.max (does o.0).1) counted)

      tested : (b : Bool) → test ≡ b → is_forbidden shape.usage ≡ false → is_full shape.card.max before ≡ true → test ≡ true
      tested true e u i = e
      tested false e u i = absurd (stays e u i)

      from : (q : List ℕ) → RepBreach profile m shape r q → Only test (0 ∷ 0 ∷ 5 ∷ []) q ⊎ Comps q
      from q (one_too_many {most = k} u e d) = inl (tested test refl u (ap (λ o. is_full o before) e ∙ full k (counted_once (RepAt m shape.number) (r - 1) k before d counted)), refl)
      from q (in_comp i) = inr i

  pub reps_begin : (a : List (List ℕ)) → ((r : ℕ) → RepAt m shape.number r → 0 < r) → Gathers (Under pre (RepsTo profile m shape 0)) a a
  reps_begin a some = gathers_nothing pre (RepsTo profile m shape 0) a none
    where
      none : (q : List ℕ) → RepsTo profile m shape 0 q → ⊥
      none [] h = h
      none (r ∷ q) h = omega (arith, h.0, some r h.1)

  compare : (a r : ℕ) → (r < a) ⊎ ((a ≡ r) ⊎ (a < r))
  compare zero zero = inr (inl refl)
  compare zero (suc r) = inr (inr (omega arith))
  compare (suc a) zero = inl (omega arith)
  compare (suc a) (suc r) = elim (compare a r) [ inl h ↦ inl (omega arith) | inr h ↦ inr (elim h [ inl e ↦ inl (ap suc e) | inr l ↦ inr (omega arith) ]) ]

  pub next_joins : (n r : ℕ) → IsNextRep m shape.number n r → Joins (Under pre (RepsTo profile m shape n)) (Under (pre ++ r ∷ []) (RepBreach profile m shape r)) (Under pre (RepsTo profile m shape r))
  next_joins n r next = record {
    order = λ p q t u. under.order p q t (under_in pre r (RepBreach profile m shape r) q u);
    left = under.left;
    right = λ q u. under.right q (under_in pre r (RepBreach profile m shape r) q u);
    either = λ q t. elim (under.either q t) [ inl x ↦ inl x | inr y ↦ inr (under_out pre r (RepBreach profile m shape r) q y) ];
  }
    where
      before : (p q : List ℕ) → RepsTo profile m shape n p → Under (r ∷ []) (RepBreach profile m shape r) q → Before p q
      before [] q h u = absurd h
      before (j ∷ p) [] h u = absurd u
      before (j ∷ p) (k ∷ q) h u = inl (omega (arith, h.0, u.0, next.behind))

      to : (q : List ℕ) → RepsTo profile m shape n q → RepsTo profile m shape r q
      to [] h = h
      to (j ∷ q) h = (omega (arith, h.0, next.behind), h.1, h.2)

      here : (q : List ℕ) → Under (r ∷ []) (RepBreach profile m shape r) q → RepsTo profile m shape r q
      here [] u = absurd u
      here (k ∷ q) u = (omega (arith, u.0), subst (RepAt m shape.number) u.0 next.there, subst (λ j. RepBreach profile m shape j q) u.0 u.1)

      from : (q : List ℕ) → RepsTo profile m shape r q → RepsTo profile m shape n q ⊎ Under (r ∷ []) (RepBreach profile m shape r) q
      from [] h = absurd h
      from (j ∷ q) h = elim (compare n j) [
        | inl lt ↦ inl (omega arith, h.1, h.2)
        | inr (inl e) ↦ inl (omega (arith, e), h.1, h.2)
        | inr (inr lt) ↦ (let least = next.first j lt h.1 in
            let same : r ≡ j = omega (arith, least, h.0) in
            inr (same, subst (λ k. RepBreach profile m shape k q) (sym same) h.2))
      ]

      under : Joins (Under pre (RepsTo profile m shape n)) (Under pre (Under (r ∷ []) (RepBreach profile m shape r))) (Under pre (RepsTo profile m shape r))
      under = joins_under pre (RepsTo profile m shape n) (Under (r ∷ []) (RepBreach profile m shape r)) (RepsTo profile m shape r) (record { order = before; left = to; right = here; either = from })

  pub rest_joins : (n : ℕ) → Joins (Under pre (RepsTo profile m shape n)) (Under pre (RepsFrom profile m shape n)) (Under pre (RepsBreach profile m shape))
  rest_joins n = joins_under pre (RepsTo profile m shape n) (RepsFrom profile m shape n) (RepsBreach profile m shape) (record { order = order; left = left; right = right; either = either })
    where
      order : (p q : List ℕ) → RepsTo profile m shape n p → RepsFrom profile m shape n q → Before p q
      order [] q h u = absurd h
      order (j ∷ p) [] h u = absurd u
      order (j ∷ p) (k ∷ q) h u = inl (omega (arith, h.0, u.0))

      left : (q : List ℕ) → RepsTo profile m shape n q → RepsBreach profile m shape q
      left [] h = absurd h
      left (r ∷ q) h = in_rep h.1 h.2

      right : (q : List ℕ) → RepsFrom profile m shape n q → RepsBreach profile m shape q
      right [] h = absurd h
      right (r ∷ q) h = in_rep h.1 h.2

      either : (q : List ℕ) → RepsBreach profile m shape q → RepsTo profile m shape n q ⊎ RepsFrom profile m shape n q
      either q (in_rep {r = r} {spot = k} there i) = elim (cases_lt n r) as (λ _. RepsTo profile m shape n (r ∷ k) ⊎ RepsFrom profile m shape n (r ∷ k)) [
        | inl lt ↦ inr (lt, there, i)
        | inr le ↦ inl (le, there, i)
      ]

  pub reps_all : (n : ℕ) (a b : List (List ℕ)) → ((r : ℕ) → RepAt m shape.number r → r ≤ n) → Gathers (Under pre (RepsTo profile m shape n)) a b → Gathers (Under pre (RepsBreach profile m shape)) a b
  reps_all n a b le = gathers_same (Under pre (RepsTo profile m shape n)) (Under pre (RepsBreach profile m shape)) (under_map pre (RepsTo profile m shape n) (RepsBreach profile m shape) to) (under_map pre (RepsBreach profile m shape) (RepsTo profile m shape n) from) a b
    where
      to : (q : List ℕ) → RepsTo profile m shape n q → RepsBreach profile m shape q
      to [] h = absurd h
      to (r ∷ q) h = in_rep h.1 h.2

      from : (q : List ℕ) → RepsBreach profile m shape q → RepsTo profile m shape n q
      from q (in_rep {r = r} there i) = (le r there, there, i)

  -- ---- fields

  abbrev F : List ℕ → Type 0
  F = FieldBreach profile m shape

  behind : ((r : ℕ) → RepAt m shape.number r → 0 < r) → (k : ℕ) (q : List ℕ) → RepsBreach profile m shape q → Before (0 ∷ 0 ∷ 0 ∷ k ∷ []) q
  behind some k q (in_rep {r = r} at i) = inl (some r at)

  pub short_joins : (test : Bool) → ((r : ℕ) → RepAt m shape.number r → 0 < r) → is_forbidden shape.usage ≡ false → (test ≡ true → IsShort (RepAt m shape.number) shape.card.min) → (test ≡ false → (count : ℕ) → IsCount (RepAt m shape.number) count → shape.card.min ≤ count) → Joins (Only test (pre ++ 0 ∷ 0 ∷ 0 ∷ 3 ∷ [])) (Under pre (RepsBreach profile m shape)) (Under pre F)
  short_joins test some may does stays = joins_only pre test (0 ∷ 0 ∷ 0 ∷ 3 ∷ []) (RepsBreach profile m shape) F (record { order = order; left = left; right = λ q i. in_reps i; either = either })
    where
      order : (p q : List ℕ) → Only test (0 ∷ 0 ∷ 0 ∷ 3 ∷ []) p → RepsBreach profile m shape q → Before p q
      order p q o i = subst (λ k. Before k q) o.1 (behind some 3 q i)

      left : (q : List ℕ) → Only test (0 ∷ 0 ∷ 0 ∷ 3 ∷ []) q → F q
      left q o = let y = does o.0 in subst F o.1 (too_few may y.is.is y.is.counted y.less)

      short : (t : Bool) → test ≡ t → (count : ℕ) → IsCount (RepAt m shape.number) count → count < shape.card.min → test ≡ true
      short true e k i lt = e
      short false e k i lt = absurd (let le = stays e k i in omega (arith, le, lt))

      either : (q : List ℕ) → F q → Only test (0 ∷ 0 ∷ 0 ∷ 3 ∷ []) q ⊎ RepsBreach profile m shape q
      either q (too_few {last = l} {count = k} u i n lt) = inl (short test refl k (record { last = l; is = i; counted = n }) lt, refl)
      either q (field_forbidden u at) = absurd (true_false (sym u ∙ may))
      either q (in_reps i) = inr i

  pub unwelcome_joins : (test : Bool) → ((r : ℕ) → RepAt m shape.number r → 0 < r) → is_forbidden shape.usage ≡ true → (test ≡ true → FieldAt m shape.number) → (test ≡ false → FieldAt m shape.number → ⊥) → Joins (Only test (pre ++ 0 ∷ 0 ∷ 0 ∷ 4 ∷ [])) (Under pre (RepsBreach profile m shape)) (Under pre F)
  unwelcome_joins test some never does stays = joins_only pre test (0 ∷ 0 ∷ 0 ∷ 4 ∷ []) (RepsBreach profile m shape) F (record { order = order; left = left; right = λ q i. in_reps i; either = either })
    where
      order : (p q : List ℕ) → Only test (0 ∷ 0 ∷ 0 ∷ 4 ∷ []) p → RepsBreach profile m shape q → Before p q
      order p q o i = subst (λ k. Before k q) o.1 (behind some 4 q i)

      left : (q : List ℕ) → Only test (0 ∷ 0 ∷ 0 ∷ 4 ∷ []) q → F q
      left q o = subst F o.1 (field_forbidden never (does o.0))

      there : (t : Bool) → test ≡ t → FieldAt m shape.number → test ≡ true
      there true e at = e
      there false e at = absurd (stays e at)

      either : (q : List ℕ) → F q → Only test (0 ∷ 0 ∷ 0 ∷ 4 ∷ []) q ⊎ RepsBreach profile m shape q
      either q (too_few u i n lt) = absurd (true_false (sym never ∙ u))
      either q (field_forbidden u at) = inl (there test refl at, refl)
      either q (in_reps i) = inr i

  -- where no repetition is present
  pub absent_field : {U E : Type 0} (stopped : List (List ℕ) → List ℕ → E → Type 0) (test : Bool) (a b : List (List ℕ)) (result : Result U E) → ((r : ℕ) → RepAt m shape.number r → 0 < r) → ((r : ℕ) → RepAt m shape.number r → r ≤ 0) → (test ≡ true → (is_forbidden shape.usage ≡ false) × (0 < shape.card.min)) → (test ≡ false → is_forbidden shape.usage ≡ false → 0 < shape.card.min → ⊥) → Visits stopped (Only test (pre ++ 0 ∷ 0 ∷ 0 ∷ 3 ∷ [])) a b result → Visits stopped (Under pre F) a b result
  absent_field stopped test a b result some none does stays = visits_only stopped pre test (0 ∷ 0 ∷ 0 ∷ 3 ∷ []) F to from a b result
    where
      not_there : (r : ℕ) → RepAt m shape.number r → ⊥
      not_there r p = omega (arith, some r p, none r p)

      to : (q : List ℕ) → Only test (0 ∷ 0 ∷ 0 ∷ 3 ∷ []) q → F q
      to q o = let y = does o.0 in subst F o.1 (too_few {last = 0} {count = 0} y.0 (record { there = λ h. absurd (omega (arith, h)); within = λ r p. (some r p, none r p) }) refl y.1)

      comes : (t : Bool) → test ≡ t → is_forbidden shape.usage ≡ false → 0 < shape.card.min → test ≡ true
      comes true e u lt = e
      comes false e u lt = absurd (stays e u lt)

      from : (q : List ℕ) → F q → Only test (0 ∷ 0 ∷ 0 ∷ 3 ∷ []) q
      from q (too_few u i n lt) = (comes test refl u (omega (arith, lt)), refl)
      from q (field_forbidden u at) = absurd (not_there at.0 at.1)
      from q (in_reps (in_rep {r = r} there i)) = absurd (not_there r there)
