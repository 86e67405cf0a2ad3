-- What a walk says to its visitor, put together.
use Rattle.std.proofs.Common.{◌≡◌, ℕ, zero, suc, ◌+◌, ◌<◌, ◌≤◌, ◌⊎◌, inl, inr, Bool, true, false, List, [], ◌∷◌, ◌++◌, refl, sym, ap, ◌∙◌, subst, arith, length, take, drop, get_or, map, append-nil, append_assoc, Result, Ok, Err}
use Rattle.std.specs.Prelude.{OnOk, IfErr, IsErr, IsErrAnd}
use Rattle.std.proofs.lemmas.List.{take_more, map-append}
use Rattle.std.proofs.lemmas.Grind.{common_steps}
use Rattle.std.specs.List.{AllByRecursion}
use Rattle.gw_validate.specs.Breaches.{InAny, in_first, in_later, NotAfter}
use Rattle.gw_validate.specs.Every.{Before, Has, Rising, AreAll}
use Rattle.gw_validate.specs.own.Gathering.{Under, Only, Gathers, Stops, Visits}
use Rattle.gw_validate.specs.own.Least.{Rises}

-- R holds of what P or Q holds of, and the one comes before the other
pub record Joins (P Q R : List ℕ → Type 0) : Type 0 where
  pub order : (p q : List ℕ) → P p → Q q → Before p q
  pub left : (q : List ℕ) → P q → R q
  pub right : (q : List ℕ) → Q q → R q
  pub either : (q : List ℕ) → R q → P q ⊎ Q q

-- ---- lists of spots

has_front : (ps qs : List (List ℕ)) (q : List ℕ) → Has ps q → Has (ps ++ qs) q
has_front [] qs q h = absurd h
has_front (p ∷ ps) qs q (inl e) = inl e
has_front (p ∷ ps) qs q (inr h) = inr (has_front ps qs q h)

has_back : (ps qs : List (List ℕ)) (q : List ℕ) → Has qs q → Has (ps ++ qs) q
has_back [] qs q h = h
has_back (p ∷ ps) qs q h = inr (has_back ps qs q h)

has_either : (ps qs : List (List ℕ)) (q : List ℕ) → Has (ps ++ qs) q → Has ps q ⊎ Has qs q
has_either [] qs q h = inr h
has_either (p ∷ ps) qs q (inl e) = inl (inl e)
has_either (p ∷ ps) qs q (inr h) = elim (has_either ps qs q h) [ inl a ↦ inl (inr a) | inr b ↦ inr b ]

rising_join : (ps qs : List (List ℕ)) → Rising ps → Rising qs → ((p q : List ℕ) → Has ps p → Has qs q → Before p q) → Rising (ps ++ qs)
rising_join [] qs a b o = b
rising_join (p ∷ ps) qs a b o = (first, rising_join ps qs a.1 b (λ x q h. o x q (inr h)))
  where
    first : (q : List ℕ) → Has (ps ++ qs) q → Before p q
    first q h = elim (has_either ps qs q h) [ inl i ↦ a.0 q i | inr i ↦ o p q (inl refl) i ]

pub all_join : (P Q R : List ℕ → Type 0) (ps qs : List (List ℕ)) → AreAll P ps → AreAll Q qs → ((p q : List ℕ) → P p → Q q → Before p q) → ((q : List ℕ) → P q → R q) → ((q : List ℕ) → Q q → R q) → ((q : List ℕ) → R q → P q ⊎ Q q) → AreAll R (ps ++ qs)
all_join P Q R ps qs a b o f g h = record {
  each = λ q i. elim (has_either ps qs q i) [ inl x ↦ f q (a.each q x) | inr y ↦ g q (b.each q y) ];
  every = λ q r. elim (h q r) [ inl x ↦ has_front ps qs q (a.every q x) | inr y ↦ has_back ps qs q (b.every q y) ];
  rising = rising_join ps qs a.rising b.rising (λ p q i j. o p q (a.each p i) (b.each q j));
}

pub all_none : (P : List ℕ → Type 0) → ((q : List ℕ) → P q → ⊥) → AreAll P []
all_none P n = record { each = λ q h. absurd h; every = λ q p. absurd (n q p); rising = tt }

pub all_same : (P Q : List ℕ → Type 0) (ps : List (List ℕ)) → ((q : List ℕ) → P q → Q q) → ((q : List ℕ) → Q q → P q) → AreAll P ps → AreAll Q ps
all_same P Q ps f g a = record { each = λ q h. f q (a.each q h); every = λ q x. a.every q (g q x); rising = a.rising }

pub all_one : (p : List ℕ) → AreAll (Only true p) (p ∷ [])
all_one p = record {
  each = λ q h. elim h [ inl e ↦ (refl, e) | inr n ↦ absurd n ];
  every = λ q o. inl o.1;
  rising = ((λ q h. absurd h), tt);
}

not_after : (p q : List ℕ) → Before p q → NotAfter p q
not_after [] q b = absurd b
not_after (x ∷ p) [] b = absurd b
not_after (x ∷ p) (y ∷ q) (inl lt) = inl lt
not_after (x ∷ p) (y ∷ q) (inr b) = inr (b.0, not_after p q b.1)

-- ---- behind numbers

pub under_map : (pre : List ℕ) (P Q : List ℕ → Type 0) → ((q : List ℕ) → P q → Q q) → (q : List ℕ) → Under pre P q → Under pre Q q
under_map [] P Q f q u = f q u
under_map (n ∷ pre) P Q f [] u = absurd u
under_map (n ∷ pre) P Q f (k ∷ q) u = (u.0, under_map pre P Q f q u.1)

under_or : (pre : List ℕ) (P Q : List ℕ → Type 0) (q : List ℕ) → Under pre (λ k. P k ⊎ Q k) q → Under pre P q ⊎ Under pre Q q
under_or [] P Q q u = u
under_or (n ∷ pre) P Q [] u = absurd u
under_or (n ∷ pre) P Q (k ∷ q) u = elim (under_or pre P Q q u.1) [ inl a ↦ inl (u.0, a) | inr b ↦ inr (u.0, b) ]

under_before : (pre : List ℕ) (P Q : List ℕ → Type 0) → ((p q : List ℕ) → P p → Q q → Before p q) → (p q : List ℕ) → Under pre P p → Under pre Q q → Before p q
under_before [] P Q o p q a b = o p q a b
under_before (n ∷ pre) P Q o [] q a b = absurd a
under_before (n ∷ pre) P Q o (j ∷ p) [] a b = absurd b
under_before (n ∷ pre) P Q o (j ∷ p) (k ∷ q) a b = inr (sym a.0 ∙ b.0, under_before pre P Q o p q a.1 b.1)

pub under_in : (pre : List ℕ) (n : ℕ) (P : List ℕ → Type 0) (q : List ℕ) → Under (pre ++ n ∷ []) P q → Under pre (Under (n ∷ []) P) q
under_in [] n P q u = u
under_in (m ∷ pre) n P [] u = absurd u
under_in (m ∷ pre) n P (k ∷ q) u = (u.0, under_in pre n P q u.1)

pub under_out : (pre : List ℕ) (n : ℕ) (P : List ℕ → Type 0) (q : List ℕ) → Under pre (Under (n ∷ []) P) q → Under (pre ++ n ∷ []) P q
under_out [] n P q u = u
under_out (m ∷ pre) n P [] u = absurd u
under_out (m ∷ pre) n P (k ∷ q) u = (u.0, under_out pre n P q u.1)

only_in : (pre : List ℕ) (test : Bool) (key q : List ℕ) → Only test (pre ++ key) q → Under pre (Only test key) q
only_in [] test key q o = o
only_in (n ∷ pre) test key q o = subst (Under (n ∷ pre) (Only test key)) o.1 (refl, only_in pre test key (pre ++ key) (o.0, refl))

only_out : (pre : List ℕ) (test : Bool) (key q : List ℕ) → Under pre (Only test key) q → Only test (pre ++ key) q
only_out [] test key q u = u
only_out (n ∷ pre) test key [] u = absurd u
only_out (n ∷ pre) test key (k ∷ q) u = let o = only_out pre test key q u.1 in (o.0, ap (λ l. n ∷ l) o.1 ∙ ap (λ (j : ℕ). j ∷ q) u.0)

pub joins_under : (pre : List ℕ) (P Q R : List ℕ → Type 0) → Joins P Q R → Joins (Under pre P) (Under pre Q) (Under pre R)
joins_under pre P Q R j = record {
  order = under_before pre P Q j.order;
  left = under_map pre P R j.left;
  right = under_map pre Q R j.right;
  either = λ q u. under_or pre P Q q (under_map pre R (λ k. P k ⊎ Q k) j.either q u);
}

pub joins_only : (pre : List ℕ) (test : Bool) (key : List ℕ) (Q R : List ℕ → Type 0) → Joins (Only test key) Q R → Joins (Only test (pre ++ key)) (Under pre Q) (Under pre R)
joins_only pre test key Q R j = record {
  order = λ p q o u. under.order p q (only_in pre test key p o) u;
  left = λ q o. under.left q (only_in pre test key q o);
  right = under.right;
  either = λ q u. elim (under.either q u) [ inl x ↦ inl (only_out pre test key q x) | inr y ↦ inr y ];
}
  where
    under : Joins (Under pre (Only test key)) (Under pre Q) (Under pre R)
    under = joins_under pre (Only test key) Q R j

-- ---- what is seen

pub gathers_none : (P : List ℕ → Type 0) (a : List (List ℕ)) → ((q : List ℕ) → P q → ⊥) → Gathers P a a
gathers_none P a n = record { added = []; is = sym (append-nil a); all = all_none P n }

pub gathers_one : (a b : List (List ℕ)) (key : List ℕ) → b ≡ a ++ key ∷ [] → Gathers (Only true key) a b
gathers_one a b key is = record { added = key ∷ []; is = is; all = all_one key }

pub gathers_join : (P Q R : List ℕ → Type 0) → Joins P Q R → (a b c : List (List ℕ)) → Gathers P a b → Gathers Q b c → Gathers R a c
gathers_join P Q R j a b c x y = record {
  added = x.added ++ y.added;
  is = y.is ∙ ap (λ (l : List (List ℕ)). l ++ y.added) x.is ∙ append_assoc a x.added y.added;
  all = all_join P Q R x.added y.added x.all y.all j.order j.left j.right j.either;
}

pub gathers_same : (P Q : List ℕ → Type 0) → ((q : List ℕ) → P q → Q q) → ((q : List ℕ) → Q q → P q) → (a b : List (List ℕ)) → Gathers P a b → Gathers Q a b
gathers_same P Q f g a b v = record { added = v.added; is = v.is; all = all_same P Q v.added f g v.all }

pub gathers_at : {A : Type 0} (pre : List ℕ) (P : A → List ℕ → Type 0) (x y : A) → x ≡ y → (a b : List (List ℕ)) → Gathers (Under pre (P x)) a b → Gathers (Under pre (P y)) a b
gathers_at pre P x y same a b = subst (λ z. Gathers (Under pre (P z)) a b) same

module _ {E : Type 0} (stopped : List (List ℕ) → List ℕ → E → Type 0) where
  pub stops_one : (a : List (List ℕ)) (key : List ℕ) (e : E) → stopped a key e → Stops stopped (Only true key) a e
  stops_one a key e s = record {
    added = [];
    key = key;
    ends = subst (λ (l : List (List ℕ)). stopped l key e) (sym (append-nil a)) s;
    here = (refl, refl);
    others = λ q o. inr (subst (NotAfter key) o.1 (itself key));
  }
    where
      itself : (p : List ℕ) → NotAfter p p
      itself [] = tt
      itself (x ∷ p) = inr (refl, itself p)

  module _ (P Q R : List ℕ → Type 0) (j : Joins P Q R) where
    -- the walk ended among the first
    pub stops_first : (a : List (List ℕ)) (e : E) → Stops stopped P a e → Stops stopped R a e
    stops_first a e s = record { added = s.added; key = s.key; ends = s.ends; here = j.left s.key s.here; others = others }
      where
        others : (q : List ℕ) → R q → Has s.added q ⊎ NotAfter s.key q
        others q r = elim (j.either q r) [ inl x ↦ s.others q x | inr y ↦ inr (not_after s.key q (j.order s.key q s.here y)) ]

    -- it went on from all of the first, and ended among the others
    pub stops_then : (a b : List (List ℕ)) (e : E) → Gathers P a b → Stops stopped Q b e → Stops stopped R a e
    stops_then a b e x y = record {
      added = x.added ++ y.added;
      key = y.key;
      ends = subst (λ (l : List (List ℕ)). stopped l y.key e) (ap (λ (l : List (List ℕ)). l ++ y.added) x.is ∙ append_assoc a x.added y.added) y.ends;
      here = j.right y.key y.here;
      others = λ q r. elim (j.either q r) [
        | inl p ↦ inl (has_front x.added y.added q (x.all.every q p))
        | inr o ↦ elim (y.others q o) [ inl h ↦ inl (has_back x.added y.added q h) | inr n ↦ inr n ]
      ];
    }

    pub visits_join : {U : Type 0} (a b c : List (List ℕ)) (r : Result U E) → Gathers P a b → Visits stopped Q b c r → Visits stopped R a c r
    visits_join a b c (Ok u) x y = gathers_join P Q R j a b c x y
    visits_join a b c (Err e) x y = stops_then a b e x y

  pub stops_same : (P Q : List ℕ → Type 0) → ((q : List ℕ) → P q → Q q) → ((q : List ℕ) → Q q → P q) → (a : List (List ℕ)) (e : E) → Stops stopped P a e → Stops stopped Q a e
  stops_same P Q f g a e v = record { added = v.added; key = v.key; ends = v.ends; here = f v.key v.here; others = λ q y. v.others q (g q y) }

  pub stops_at : {A : Type 0} (pre : List ℕ) (P : A → List ℕ → Type 0) (x y : A) → x ≡ y → (a : List (List ℕ)) (e : E) → Stops stopped (Under pre (P x)) a e → Stops stopped (Under pre (P y)) a e
  stops_at pre P x y same a e = subst (λ z. Stops stopped (Under pre (P z)) a e) same

  pub visits_same : {U : Type 0} (P Q : List ℕ → Type 0) → ((q : List ℕ) → P q → Q q) → ((q : List ℕ) → Q q → P q) → (a b : List (List ℕ)) (r : Result U E) → Visits stopped P a b r → Visits stopped Q a b r
  visits_same P Q f g a b (Ok u) v = gathers_same P Q f g a b v
  visits_same P Q f g a b (Err e) v = stops_same P Q f g a e v

  -- what `?` hands on
  pub visits_err : {U : Type 0} (P : List ℕ → Type 0) (a b : List (List ℕ)) (e : E) (r : Result U E) → IsErr r × IsErrAnd r (λ f. f ≡ e) → Stops stopped P a e → Visits stopped P a b r
  visits_err P a b e (Ok u) h s = absurd h.1
  visits_err P a b e (Err f) h s = subst (Stops stopped P a) (sym h.1) s

pub visits_only : {U E : Type 0} (stopped : List (List ℕ) → List ℕ → E → Type 0) (pre : List ℕ) (test : Bool) (key : List ℕ) (R : List ℕ → Type 0) → ((q : List ℕ) → Only test key q → R q) → ((q : List ℕ) → R q → Only test key q) → (a b : List (List ℕ)) (r : Result U E) → Visits stopped (Only test (pre ++ key)) a b r → Visits stopped (Under pre R) a b r
visits_only stopped pre test key R f g = visits_same stopped (Only test (pre ++ key)) (Under pre R)
    (λ q o. under_map pre (Only test key) R f q (only_in pre test key q o))
    (λ q u. only_out pre test key q (under_map pre R (Only test key) g q u))

pub visits_breach : {U E : Type 0} (stopped : List (List ℕ) → List ℕ → E → Type 0) (test : Bool) (key : List ℕ) (a b : List (List ℕ)) (r : Result U E) → test ≡ true → OnOk r (b ≡ a ++ key ∷ []) → IfErr r (stopped a key) → Visits stopped (Only test key) a b r
visits_breach {U = U} {E = E} stopped test key a b r is on ends = subst (λ t. Visits stopped (Only t key) a b r) (sym is) (by r on ends)
  where
    by : (r : Result U E) → OnOk r (b ≡ a ++ key ∷ []) → IfErr r (stopped a key) → Visits stopped (Only true key) a b r
    by (Ok u) on ends = gathers_one a b key on
    by (Err e) on ends = stops_one stopped a key e ends

pub gathers_not : (test : Bool) (key : List ℕ) (a : List (List ℕ)) → test ≡ false → Gathers (Only test key) a a
gathers_not test key a is = gathers_none (Only test key) a (λ q o. let clash : true ≡ false = sym o.0 ∙ is in cc)

pub on_any : {T E : Type 0} (r : Result T E) (P : Type 0) → P → OnOk r P
on_any (Ok t) P p = p
on_any (Err e) P p = tt

under_none : (pre : List ℕ) (P : List ℕ → Type 0) → ((q : List ℕ) → P q → ⊥) → (q : List ℕ) → Under pre P q → ⊥
under_none [] P n q u = n q u
under_none (m ∷ pre) P n [] u = u
under_none (m ∷ pre) P n (k ∷ q) u = under_none pre P n q u.1

pub gathers_nothing : (pre : List ℕ) (P : List ℕ → Type 0) (a : List (List ℕ)) → ((q : List ℕ) → P q → ⊥) → Gathers (Under pre P) a a
gathers_nothing pre P a n = gathers_none (Under pre P) a (under_none pre P n)

-- ---- shapes in turn

module _ {X : Type 0} (number : X → ℕ) (B : X → List ℕ → Type 0) where
  pub none_of_none : (q : List ℕ) → InAny number B [] q → ⊥
  none_of_none q b = elim b [ ]

  -- numbers that rise from above low are above it
  pub any_above : (low : ℕ) (xs : List X) → Rises number low xs → (a : ℕ) (p q : List ℕ) → a ≤ low → InAny number B xs q → Before (a ∷ p) q
  any_above low [] r a p q le b = elim b [ ]
  any_above low (x ∷ xs) r a p q le (in_first b) = inl (omega (arith, r.0))
  any_above low (x ∷ xs) r a p q le (in_later b) = any_above (number x) xs r.1 a p _ (omega (arith, r.0)) b

  -- a shape, and those behind it
  pub any_first : (low : ℕ) (x : X) (xs : List X) → Rises number low (x ∷ xs) → Joins (Under (number x ∷ []) (B x)) (InAny number B xs) (InAny number B (x ∷ xs))
  any_first low x xs r = record { order = order; left = left; right = λ q b. in_later b; either = either }
    where
      order : (p q : List ℕ) → Under (number x ∷ []) (B x) p → InAny number B xs q → Before p q
      order [] q u b = absurd u
      order (k ∷ p) q u b = any_above (number x) xs r.1 k p q (omega (arith, u.0)) b

      left : (q : List ℕ) → Under (number x ∷ []) (B x) q → InAny number B (x ∷ xs) q
      left [] u = absurd u
      left (k ∷ q) u = subst (λ (j : ℕ). InAny number B (x ∷ xs) (j ∷ q)) u.0 (in_first u.1)

      either : (q : List ℕ) → InAny number B (x ∷ xs) q → Under (number x ∷ []) (B x) q ⊎ InAny number B xs q
      either q (in_first b) = inl (refl, b)
      either q (in_later b) = inr b

  any_front : (xs ys : List X) (q : List ℕ) → InAny number B xs q → InAny number B (xs ++ ys) q
  any_front [] ys q b = elim b [ ]
  any_front (x ∷ xs) ys q (in_first b) = in_first b
  any_front (x ∷ xs) ys q (in_later b) = in_later (any_front xs ys _ b)

  any_back : (xs ys : List X) (q : List ℕ) → InAny number B ys q → InAny number B (xs ++ ys) q
  any_back [] ys q b = b
  any_back (x ∷ xs) ys q b = in_later (any_back xs ys q b)

  any_either : (xs ys : List X) (q : List ℕ) → InAny number B (xs ++ ys) q → InAny number B xs q ⊎ InAny number B ys q
  any_either [] ys q b = inr b
  any_either (x ∷ xs) ys q (in_first b) = inl (in_first b)
  any_either (x ∷ xs) ys q (in_later b) = elim (any_either xs ys _ b) [ inl i ↦ inl (in_later i) | inr j ↦ inr j ]

  any_order : (low : ℕ) (xs ys : List X) → Rises number low (xs ++ ys) → (p q : List ℕ) → InAny number B xs p → InAny number B ys q → Before p q
  any_order low [] ys r p q a b = elim a [ ]
  any_order low (x ∷ xs) ys r p q (in_first {spot = s} a) b = any_above (number x) (xs ++ ys) r.1 (number x) s q (omega arith) (any_back xs ys q b)
  any_order low (x ∷ xs) ys r p q (in_later a) b = any_order (number x) xs ys r.1 p q a b

  -- shapes, and those behind them
  pub any_cut : (xs ys : List X) → Rises number 0 (xs ++ ys) → Joins (InAny number B xs) (InAny number B ys) (InAny number B (xs ++ ys))
  any_cut xs ys r = record { order = any_order 0 xs ys r; left = any_front xs ys; right = any_back xs ys; either = any_either xs ys }

  any_low : (low : ℕ) (xs ys : List X) → Rises number low (xs ++ ys) → Rises number 0 ys
  any_low low [] [] r = tt
  any_low low [] (y ∷ ys) r = (omega (arith, r.0), r.1)
  any_low low (x ∷ xs) ys r = any_low (number x) xs ys r.1

cut_at : {Y : Type 0} (ys : List Y) (i : ℕ) (y : Y) → i < length ys → y ≡ get_or ys i y → ys ≡ take i ys ++ y ∷ drop (suc i) ys
cut_at [] i y lt at = absurd (omega arith)
cut_at (z ∷ ys) zero y lt at = ap (λ w. w ∷ ys) (sym at)
cut_at (z ∷ ys) (suc i) y lt at = ap (λ l. z ∷ l) (cut_at ys i y (omega arith) at)

pub all_at : {Y X : Type 0} (f : Y → X) (P : X → Type 0) (ys : List Y) (i : ℕ) (y : Y) → i < length ys → y ≡ get_or ys i y → AllByRecursion P (map f ys) → P (f y)
all_at f P [] i y lt at a = absurd (omega arith)
all_at f P (z ∷ ys) zero y lt at a = subst (λ w. P (f w)) (sym at) a.0
all_at f P (z ∷ ys) (suc i) y lt at a = all_at f P ys i y (omega arith) at a.1

module _ {Y X : Type 0} (pre : List ℕ) (f : Y → X) (number : X → ℕ) (B : X → List ℕ → Type 0) (ys : List Y) where
  abbrev In : List X → List ℕ → Type 0
  In xs = InAny number B xs

  pub gathers_begin : (a : List (List ℕ)) → Gathers (Under pre (In (map f (take 0 ys)))) a a
  gathers_begin a = gathers_nothing pre (In (map f (take 0 ys))) a (none_of_none number B)

  module _ (i : ℕ) (y : Y) (a b : List (List ℕ)) (lt : i < length ys) (at : y ≡ get_or ys i y) (rises : Rises number 0 (map f ys)) (g : Gathers (Under pre (In (map f (take i ys)))) a b) where
    abbrev xs : List X
    xs = map f (take i ys)

    abbrev later : List X
    later = map f (drop (suc i) ys)

    abbrev One : List ℕ → Type 0
    One = Under (number (f y) ∷ []) (B (f y))

    split : map f ys ≡ xs ++ f y ∷ later
    split = ap (map f) (cut_at ys i y lt at) ∙ map-append f (take i ys) (y ∷ drop (suc i) ys)

    cut : Rises number 0 (xs ++ f y ∷ later)
    cut = subst (Rises number 0) split rises

    alone : (low : ℕ) (zs : List X) → Rises number low (zs ++ f y ∷ later) → Rises number low (zs ++ f y ∷ [])
    alone low [] r = (r.0, tt)
    alone low (z ∷ zs) r = (r.0, alone (number z) zs r.1)

    -- one more, from which the walk went on
    pub gathers_more : (c : List (List ℕ)) → Gathers (Under (pre ++ number (f y) ∷ []) (B (f y))) b c → Gathers (Under pre (In (map f (take (i + 1) ys)))) a c
    gathers_more c h =
        subst (λ (l : List Y). Gathers (Under pre (In (map f l))) a c) (sym (take_more ys i y lt ∙ ap (λ z. take i ys ++ z ∷ []) (sym at)))
        (subst (λ (l : List X). Gathers (Under pre (In l)) a c) (sym (map-append f (take i ys) (y ∷ [])))
        (gathers_join (Under pre (In xs)) (Under pre One) (Under pre (In (xs ++ f y ∷ []))) (joins_under pre (In xs) One (In (xs ++ f y ∷ [])) joins) a b c g
        (gathers_same (Under (pre ++ number (f y) ∷ []) (B (f y))) (Under pre One) (under_in pre (number (f y)) (B (f y))) (under_out pre (number (f y)) (B (f y))) b c h)))
      where
        whole : Joins (In xs) (In (f y ∷ [])) (In (xs ++ f y ∷ []))
        whole = any_cut number B xs (f y ∷ []) (alone 0 xs cut)

        first : Joins One (In []) (In (f y ∷ []))
        first = any_first number B 0 (f y) [] (any_low number B 0 xs (f y ∷ []) (alone 0 xs cut))

        joins : Joins (In xs) One (In (xs ++ f y ∷ []))
        joins = record {
          order = λ p q v u. whole.order p q v (first.left q u);
          left = whole.left;
          right = λ q u. whole.right q (first.left q u);
          either = λ q v. elim (whole.either q v) [
            | inl w ↦ inl w
            | inr w ↦ elim (first.either q w) [ inl u ↦ inr u | inr n ↦ absurd (none_of_none number B q n) ]
          ];
        }

    -- one more, at which it ended
    pub stops_more : {E : Type 0} (stopped : List (List ℕ) → List ℕ → E → Type 0) (e : E) → Stops stopped (Under (pre ++ number (f y) ∷ []) (B (f y))) b e → Stops stopped (Under pre (In (map f ys))) a e
    stops_more stopped e s =
        subst (λ (l : List X). Stops stopped (Under pre (In l)) a e) (sym split)
        (stops_then stopped (Under pre (In xs)) (Under pre (In (f y ∷ later))) (Under pre (In (xs ++ f y ∷ later))) (joins_under pre (In xs) (In (f y ∷ later)) (In (xs ++ f y ∷ later)) (any_cut number B xs (f y ∷ later) cut)) a b e g
        (stops_first stopped (Under pre One) (Under pre (In later)) (Under pre (In (f y ∷ later))) (joins_under pre One (In later) (In (f y ∷ later)) (any_first number B 0 (f y) later (any_low number B 0 xs (f y ∷ later) cut))) b e
        (stops_same stopped (Under (pre ++ number (f y) ∷ []) (B (f y))) (Under pre One) (under_in pre (number (f y)) (B (f y))) (under_out pre (number (f y)) (B (f y))) b e s)))

  pub gathers_end : (i : ℕ) (a b : List (List ℕ)) → length ys ≤ i → Gathers (Under pre (In (map f (take i ys)))) a b → Gathers (Under pre (In (map f ys))) a b
  gathers_end i a b le g = subst (λ (l : List Y). Gathers (Under pre (In (map f l))) a b) (let whole : take i ys ≡ ys = grind (arith, common_steps) in whole) g
