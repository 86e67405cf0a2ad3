-- The repetitions of a field that are chosen, and numbers that are counted.
use Rattle.std.proofs.Common.{◌≡◌, ℕ, zero, suc, ◌+◌, ◌-◌, ◌<◌, ◌≤◌, ◌⊎◌, inl, inr, true, false, List, [], ◌∷◌, Option, Some, None, refl, sym, ap, subst, ◌∙◌, arith, length}
use Rattle.std.proofs.lemmas.Bool.{cases_lt}
use Rattle.std.proofs.lemmas.Bool.Decides.{eqb_tells}
use Rattle.gw_er7.specs.Message.{Texts, text_of}
use Rattle.gw_er7.specs.Presence.{RepAt, IsLast}
use Rattle.gw_profile.proofs.Facts.{tells, no_clash}
use Rattle.gw_validate.specs.Breaches.{Counted}
use Rattle.gw_validate.proofs.Leasts.{counted_once}
use Rattle.gw_validate.proofs.Nexts.{next_counted}
use Rattle.gw_maplang.specs.Shapes.{Condition}
use Rattle.gw_resolve.specs.Intervals.{Interval}
use Rattle.gw_leaves.specs.Counts.{chosen_count}
use Rattle.gw_interp.specs.Meaning.{IsFirst, IsNth, is_one, IsChosen}
use Rattle.gw_interp.specs.own.Sourced.{IsFirstOne, IsNext, IsNextOne}
use Rattle.gw_interp.proofs.Bounded.{Decided, first_if, some_if, bound, text_bounded, rep_if}
use Rattle.gw_interp.proofs.Repetitions.{IsCounted, surplus, counted_never, counted_within}

-- ---- chosen

one_there : (values : List (List ℕ)) (text : List ℕ) → is_one values text ≡ true → 0 < length text
one_there values [] e = absurd (cc)
one_there values (b ∷ bytes) e = omega arith

-- a repetition that is chosen is present
pub chosen_there : (chosen : Option Condition) (m : Texts) (field r : ℕ) → IsChosen chosen m field r → RepAt m field r
chosen_there None m field r at = at
chosen_there (Some c) m field r is = (c.place.comp, (c.place.sub, one_there c.values (text_of m field r c.place.comp c.place.sub) is))

pub chosen_if : (chosen : Option Condition) (m : Texts) (field r : ℕ) → Decided (IsChosen chosen m field r)
chosen_if None m field r = rep_if m field r
chosen_if (Some c) m field r = by (tells (is_one c.values (text_of m field r c.place.comp c.place.sub)))
  where
    by : (is_one c.values (text_of m field r c.place.comp c.place.sub) ≡ true) ⊎ (is_one c.values (text_of m field r c.place.comp c.place.sub) ≡ false) → Decided (IsChosen (Some c) m field r)
    by (inl e) = inl e
    by (inr e) = inr (λ is. no_clash (sym is ∙ e))

pub chosen_bounded : (chosen : Option Condition) (m : Texts) (field r : ℕ) → IsChosen chosen m field r → r < suc (bound m)
chosen_bounded chosen m field r is =
    let at = chosen_there chosen m field r is in
    let low = text_bounded m field r at.0 at.1.0 at.1.1 in
    omega (arith, low)

pub first_chosen_if : (chosen : Option Condition) (m : Texts) (field : ℕ) → ((r : ℕ) × IsFirst (IsChosen chosen m field) r) ⊎ (((r : ℕ) × IsChosen chosen m field r) → ⊥)
first_chosen_if chosen m field = first_if (IsChosen chosen m field) (chosen_if chosen m field) (suc (bound m)) (chosen_bounded chosen m field)

-- with a condition maybe none is chosen, and no more than are present
pub chosen_counted : (chosen : Option Condition) (m : Texts) (field : ℕ) (i : Interval) → IsCounted (RepAt m field) i → IsCounted (IsChosen chosen m field) (chosen_count chosen i)
chosen_counted None m field i is = is
chosen_counted (Some c) m field i is = counted_within (IsChosen (Some c) m field) (RepAt m field) (chosen_there (Some c) m field) i is

-- ---- numbers that are counted

module _ (P : ℕ → Type 0) where
  pub counted_low : (n k : ℕ) → Counted P n k → k ≤ n
  counted_low zero k c = omega (arith, c)
  counted_low (suc n) k (inl c) = let low = counted_low n c.1 c.3 in omega (arith, c.2, low)
  counted_low (suc n) k (inr c) = let low = counted_low n k c.1 in omega (arith, low)

  -- at the next it is one more
  pub counted_next : (next a k : ℕ) → Counted P a k → IsNext P a next → Counted P next (k + 1)
  counted_next next a k c is = next_counted P a next k is.behind is.holds (λ r more p. by r more p (cases_lt r next)) c
    where
      by : (r : ℕ) → a < r → P r → (r < next) ⊎ (next ≤ r) → next ≤ r
      by r more p (inl less) = absurd (is.none_between r more less p)
      by r more p (inr ge) = ge

  pub counted_less : (b a j k : ℕ) → a ≤ b → Counted P a j → Counted P b k → j ≤ k
  counted_less zero a j k le c d = let low = counted_low a j c in omega (arith, le, low)
  counted_less (suc b) a j k le c d = by (cases_lt a (suc b)) (λ lt i e. counted_less b a j i (omega (arith, lt)) c e) d
    where
      by : (a < suc b) ⊎ (suc b ≤ a) → (a < suc b → (i : ℕ) → Counted P b i → j ≤ i) → Counted P (suc b) k → j ≤ k
      by (inl lt) below (inl e) = let less = below lt e.1 e.3 in omega (arith, e.2, less)
      by (inl lt) below (inr e) = below lt k e.1
      by (inr ge) below e =
          let same : a ≡ suc b = omega (arith, le, ge) in
          let alike = counted_once P (suc b) j k (subst (λ n. Counted P n j) same c) e in
          omega (arith, alike)

  later : (b a k j : ℕ) → a < b → Counted P a k → P b → Counted P b j → k < j
  later zero a k j lt c p d = omega (arith, lt)
  later (suc n) a k j lt c p (inl d) = let less = counted_less n a k d.1 (omega (arith, lt)) c d.3 in omega (arith, d.2, less)
  later (suc n) a k j lt c p (inr d) = absurd (d.0 p)

  -- there is at most one k-th number
  pub number_once : (k a b : ℕ) → IsNth P k a → IsNth P k b → a ≡ b
  number_once k a b x y = by (cases_lt a b) (cases_lt b a)
    where
      by : (a < b) ⊎ (b ≤ a) → (b < a) ⊎ (a ≤ b) → a ≡ b
      by (inl lt) q = let more = later b a k k lt x.counted y.holds y.counted in absurd (omega (arith, more))
      by (inr le) (inl lt) = let more = later a b k k lt y.counted x.holds x.counted in absurd (omega (arith, more))
      by (inr le) (inr ge) = omega (arith, le, ge)

  -- ---- the next

  -- none from behind a number up to another
  pub record NoneUpTo (after n : ℕ) : Type 0 where
    pub low : after ≤ n
    pub none : (k : ℕ) → after < k → k ≤ n → P k → ⊥

  pub none_yet : (after : ℕ) → NoneUpTo after after
  none_yet after = record { low = omega arith; none = λ k lt le p. omega (arith, lt, le) }

  module _ (Q : ℕ → Type 0) (so : (r : ℕ) → P r → Q r) (after n next : ℕ) (up : NoneUpTo after n) (lt : n < next) (first : (r : ℕ) → n < r → Q r → next ≤ r) where
    before : (k : ℕ) → after < k → k < next → P k → ⊥
    before k more less p = by (cases_lt n k)
      where
        by : (n < k) ⊎ (k ≤ n) → ⊥
        by (inl behind) = let le = first k behind (so k p) in omega (arith, le, less)
        by (inr le) = up.none k more le p

    pub none_on : (P next → ⊥) → NoneUpTo after next
    none_on away = record { low = omega (arith, up.low, lt); none = λ k more le p. by k more p (cases_lt k next) le }
      where
        by : (k : ℕ) → after < k → P k → (k < next) ⊎ (next ≤ k) → k ≤ next → ⊥
        by k more p (inl less) le = before k more less p
        by k more p (inr ge) le = away (let same : k ≡ next = omega (arith, ge, le) in subst P same p)

    pub next_found : P next → IsNext P after next
    next_found p = record { holds = p; behind = omega (arith, up.low, lt); none_between = before }

  pub none_behind : (Q : ℕ → Type 0) → ((r : ℕ) → P r → Q r) → (after n last : ℕ) → IsLast Q last → last ≤ n → NoneUpTo after n → IsNextOne P after None
  none_behind Q so after n last is le up = λ k more p. let low = (is.within k (so k p)).1 in up.none k more (omega (arith, le, low)) p

  -- the first is the next from the start on
  pub first_of_next : (o : Option ℕ) → (P 0 → ⊥) → IsNextOne P 0 o → IsFirstOne P o
  first_of_next None zero_not none = λ r. by r.0 r.1 (cases_lt 0 r.0)
    where
      by : (n : ℕ) → P n → (0 < n) ⊎ (n ≤ 0) → ⊥
      by n p (inl lt) = none n lt p
      by n p (inr le) = zero_not (let same : n ≡ 0 = omega (arith, le) in subst P same p)
  first_of_next (Some n) zero_not is = record { holds = is.holds; none_before = λ k less p. by k less p (cases_lt 0 k) }
    where
      by : (k : ℕ) → k < n → P k → (0 < k) ⊎ (k ≤ 0) → ⊥
      by k less p (inl lt) = is.none_between k lt less p
      by k less p (inr le) = zero_not (let same : k ≡ 0 = omega (arith, le) in subst P same p)

module _ (P : ℕ → Type 0) where
  abbrev pub HasNth : ℕ → Type 0
  HasNth k = (n : ℕ) × IsNth P k n

  -- no more can be counted than there may be
  pub number_counted : (i : Interval) → IsCounted P i → IsCounted HasNth (record { least = 0; greatest = i.greatest })
  number_counted i is = record {
    enough = λ last count l c lt. omega arith;
    limited = λ most r k e h c le. by most r k e h (counted_low HasNth (r - 1) k c) le (cases_lt most r);
  }
    where
      by : (most r k : ℕ) → i.greatest ≡ Some most → HasNth r → k ≤ r - 1 → most ≤ k → (most < r) ⊎ (r ≤ most) → ⊥
      by most r k e h low le (inl lt) =
          let more = surplus P h.0 r most h.1.counted lt in
          is.limited most more.0 most e more.1 more.2 (omega arith)
      by most r k e h low le (inr ge) =
          let none : most ≡ 0 = omega (arith, low, le, ge) in
          counted_never P i is (e ∙ ap Some none) h.0 h.1.holds

  module _ (decide : (n : ℕ) → Decided (P n)) where
    count_of : (n : ℕ) → (k : ℕ) × Counted P n k
    count_of zero = (0, refl)
    count_of (suc n) = by (decide (suc n)) (count_of n)
      where
        by : Decided (P (suc n)) → ((k : ℕ) × Counted P n k) → (k : ℕ) × Counted P (suc n) k
        by (inl p) c = (suc c.0, inl (p, c.0, refl, c.1))
        by (inr away) c = (c.0, inr (away, c.1))

    number_is : (k n : ℕ) → Decided (IsNth P k n)
    number_is k n = by (decide n) (count_of n)
      where
        by : Decided (P n) → ((j : ℕ) × Counted P n j) → Decided (IsNth P k n)
        by (inr away) c = inr (λ is. away is.holds)
        by (inl p) c =
            elim (eqb_tells c.0 k) [
              | inl e ↦ inl (record { holds = p; counted = subst (Counted P n) e.1 c.1 })
              | inr e ↦ inr (λ is. e.1 (counted_once P n c.0 k c.1 is.counted))
            ]

    pub number_if : (b : ℕ) → ((n : ℕ) → P n → n < b) → (k : ℕ) → Decided (HasNth k)
    number_if b bounded k = some_if (IsNth P k) (number_is k) b (λ n is. bounded n is.holds)

-- the number that was found, 0 where there is none
abbrev pub or_zero : {Q : ℕ → Type 0} → Decided ((n : ℕ) × Q n) → ℕ
or_zero (inl found) = found.0
or_zero (inr none) = 0

pub is_found : {Q : ℕ → Type 0} (d : Decided ((n : ℕ) × Q n)) (n : ℕ) → Q n → Q (or_zero d)
is_found (inl found) n q = found.1
is_found (inr none) n q = absurd (none (n, q))

-- the k-th repetition that is chosen
pub chosen_number_if : (c : Condition) (m : Texts) (field k : ℕ) → Decided (HasNth (IsChosen (Some c) m field) k)
chosen_number_if c m field k = number_if (IsChosen (Some c) m field) (chosen_if (Some c) m field) (suc (bound m)) (chosen_bounded (Some c) m field) k
