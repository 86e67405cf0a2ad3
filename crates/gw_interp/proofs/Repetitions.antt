-- How often something is there, and the first time that it is.
use Rattle.std.proofs.Common.{◌≡◌, ℕ, zero, suc, ◌-◌, ◌<◌, ◌≤◌, ◌⊎◌, inl, inr, Some, refl, subst, arith}
use Rattle.std.proofs.lemmas.Bool.{cases_lt}
use Rattle.gw_er7.specs.Presence.{IsLast}
use Rattle.gw_validate.specs.Breaches.{Counted}
use Rattle.gw_resolve.specs.Intervals.{Interval, never}
use Rattle.gw_interp.specs.Meaning.{IsFirst}

-- no fewer and no more of the numbers from 1 on than an interval says
pub record IsCounted (P : ℕ → Type 0) (i : Interval) : Type 0 where
  pub enough : (last count : ℕ) → IsLast P last → Counted P last count → count < i.least → ⊥
  pub limited : (most r k : ℕ) → i.greatest ≡ Some most → P r → Counted P (r - 1) k → most ≤ k → ⊥

module _ (P : ℕ → Type 0) where
  pub last_none : ((r : ℕ) → P r → ⊥) → IsLast P 0
  last_none gone = record { there = λ lt. absurd (omega arith); within = λ r at. absurd (gone r at) }

  pub counted_exists : (n : ℕ) → ((k : ℕ) → Counted P n k → ⊥) → ⊥
  counted_exists zero none = none 0 refl
  counted_exists (suc n) none = counted_exists n (λ k c. none k (inr ((λ p. none (suc k) (inl (p, k, refl, c))), c)))

  -- more than so many, so one has just so many before it
  pub surplus : (n k most : ℕ) → Counted P n k → most < k → (r : ℕ) × P r × Counted P (r - 1) most
  surplus zero k most c lt = absurd (omega (arith, c))
  surplus (suc n) k most (inl c) lt = by (cases_lt most c.1) (surplus n c.1 most c.3)
    where
      by : (most < c.1) ⊎ (c.1 ≤ most) → (most < c.1 → (r : ℕ) × P r × Counted P (r - 1) most) → (r : ℕ) × P r × Counted P (r - 1) most
      by (inl less) later = later less
      by (inr le) later =
          let before : n ≡ suc n - 1 = omega arith in
          let same : c.1 ≡ most = omega (arith, c.2, lt, le) in
          (suc n, c.0, subst (Counted P (suc n - 1)) same (subst (λ j. Counted P j c.1) before c.3))
  surplus (suc n) k most (inr c) lt = surplus n k most c.1 lt

  -- one is counted where it stands
  pub counted_one : (last count : ℕ) → 1 ≤ last → P 1 → Counted P last count → 1 ≤ count
  counted_one zero count le p c = absurd (omega arith)
  counted_one (suc n) count le p (inl c) = omega (arith, c.2)
  counted_one (suc zero) count le p (inr c) = absurd (c.0 p)
  counted_one (suc (suc n)) count le p (inr c) = counted_one (suc n) count (omega arith) p c.1

  -- ---- the first

  no_earlier : ((n : ℕ) → IsFirst P n → ⊥) → (n k : ℕ) → k < n → P k → ⊥
  no_earlier none zero k lt p = omega arith
  no_earlier none (suc n) k lt p = none k (record { holds = p; none_before = λ j less q. no_earlier none n j (omega arith) q })

  pub first_exists : (r : ℕ) → P r → ((n : ℕ) → IsFirst P n → ⊥) → ⊥
  first_exists r p none = no_earlier none (suc r) r (omega arith) p

  pub first_once : (a b : ℕ) → IsFirst P a → IsFirst P b → a ≡ b
  first_once a b x y = by (cases_lt a b) (cases_lt b a)
    where
      by : (a < b) ⊎ (b ≤ a) → (b < a) ⊎ (a ≤ b) → a ≡ b
      by (inl lt) q = absurd (y.none_before a lt x.holds)
      by (inr le) (inl lt) = absurd (x.none_before b lt y.holds)
      by (inr le) (inr ge) = omega arith

  -- ---- intervals

  pub never_counted : ((r : ℕ) → P r → ⊥) → IsCounted P never
  never_counted gone = record { enough = λ last count l c lt. omega arith; limited = λ most r k e p c le. gone r p }

  -- where none may be, none is
  pub counted_never : (i : Interval) → IsCounted P i → i.greatest ≡ Some 0 → (r : ℕ) → P r → ⊥
  counted_never i is e r p = counted_exists (r - 1) (λ k c. is.limited 0 r k e p c (omega arith))

  -- what is there only once
  pub single : (least most : ℕ) → ((r : ℕ) → P r → r ≡ 1) → (1 ≤ least → (P 1 → ⊥) → ⊥) → least ≤ 1 → (most ≡ 0 → P 1 → ⊥) → IsCounted P (record { least = least; greatest = Some most })
  single least most only there small gone = record {
    enough = λ last count l c lt.
        there (omega arith) (λ p. let bound = (l.within 1 p).1 in let some = counted_one last count bound p c in omega arith);
    limited = λ top r k e p c le.
        let one : r ≡ 1 = only r p in
        let none : k ≡ 0 = subst (λ j. Counted P (j - 1) k) one c in
        let same : most ≡ top = (let f : Some most ≡ Some top = e in cc) in
        gone (omega (arith, none, le, same)) (subst P one p);
  }

module _ (P Q : ℕ → Type 0) (so : (r : ℕ) → P r → Q r) where
  pub fewer : (n j k : ℕ) → Counted P n j → Counted Q n k → j ≤ k
  fewer zero j k c d = omega (arith, c)
  fewer (suc n) j k (inl c) (inl d) = let le = fewer n c.1 d.1 c.3 d.3 in omega (arith, c.2, d.2, le)
  fewer (suc n) j k (inl c) (inr d) = absurd (d.0 (so (suc n) c.0))
  fewer (suc n) j k (inr c) (inl d) = let le = fewer n j d.1 c.1 d.3 in omega (arith, d.2, le)
  fewer (suc n) j k (inr c) (inr d) = fewer n j k c.1 d.1

  -- what is there no more often
  pub counted_within : (i : Interval) → IsCounted Q i → IsCounted P (record { least = 0; greatest = i.greatest })
  counted_within i is = record {
    enough = λ last count l c lt. omega arith;
    limited = λ most r k e p c le. counted_exists Q (r - 1) (λ j d. let more = fewer (r - 1) k j c d in is.limited most r j e (so r p) d (omega arith));
  }

  module _ (back : (r : ℕ) → Q r → P r) where
    same_count : (n k : ℕ) → Counted P n k → Counted Q n k
    same_count zero k c = c
    same_count (suc n) k (inl c) = inl (so (suc n) c.0, c.1, c.2, same_count n c.1 c.3)
    same_count (suc n) k (inr c) = inr ((λ q. c.0 (back (suc n) q)), same_count n k c.1)

    -- what is there just as often
    pub counted_alike : (i : Interval) → IsCounted Q i → IsCounted P i
    counted_alike i is = record {
      enough = λ last count l c lt. is.enough last count (record { there = λ some. so last (l.there some); within = λ k q. l.within k (back k q) }) (same_count last count c) lt;
      limited = λ most r k e p c le. is.limited most r k e (so r p) (same_count (r - 1) k c) le;
    }
