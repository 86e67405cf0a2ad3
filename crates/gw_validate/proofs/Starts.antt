-- The first entry from a place on, among those of a segment.
use Rattle.std.proofs.Common.{◌≡◌, ℕ, zero, suc, ◌<◌, ◌≤◌, inl, inr, List, [], ◌∷◌, Option, Some, None, refl, sym, ap, ◌∙◌, subst, arith, length, slice_get, unwrap_or}
use Rattle.std.specs.Prelude.{◌≢◌}
use Rattle.std.specs.List.{AllByRecursion}
use Rattle.std.specs.FinMap as texts
use Rattle.std.proofs.lemmas.Bool.{cases_lt}
use Rattle.std.proofs.lemmas.Option.{slice_get_past}
use Rattle.gw_er7.specs.Message.{Texts, SegmentValue}
use Rattle.gw_er7.specs.Presence.{SubAt, IsStart}
use Rattle.gw_validate.specs.Breaches.{NotAfter}
use Rattle.gw_validate.proofs.Keys.{not_less, less_first, never_less, rising_at, Stands, found_at, find_at}

-- a present text stands among the entries
module _ (m : Texts) where
  standing : (f r c s : ℕ) (o : Option (List ℕ)) → texts.get m (f ∷ r ∷ c ∷ s ∷ []) ≡ o → 0 < length (unwrap_or o []) → (t : List ℕ) × Stands (texts.entries m) (f ∷ r ∷ c ∷ s ∷ []) t
  standing f r c s None e h = absurd (omega arith)
  standing f r c s (Some t) e h =
      (t, found_at (f ∷ r ∷ c ∷ s ∷ []) t (texts.entries m) (sym (texts.get-entries m (f ∷ r ∷ c ∷ s ∷ [])) ∙ e))

  pub stands : (f r c s : ℕ) → SubAt m f r c s → (t : List ℕ) × Stands (texts.entries m) (f ∷ r ∷ c ∷ s ∷ []) t
  stands f r c s h = standing f r c s (texts.get m (f ∷ r ∷ c ∷ s ∷ [])) refl h

  nonempty : (t : List ℕ) → t ≢ [] → 0 < length t
  nonempty [] n = absurd (n refl)
  nonempty (x ∷ t) n = omega arith

  pub present : (f r c s j : ℕ) (t : List ℕ) → slice_get (texts.entries m) j ≡ Some (f ∷ r ∷ c ∷ s ∷ [], t) → t ≢ [] → SubAt m f r c s
  present f r c s j t g n =
      let found : texts.get m (f ∷ r ∷ c ∷ s ∷ []) ≡ Some t = texts.get-entries m (f ∷ r ∷ c ∷ s ∷ []) ∙ find_at (f ∷ r ∷ c ∷ s ∷ []) t (texts.entries m) j (texts.entries_sorted m) g in
      subst (λ (o : Option (List ℕ)). 0 < length (unwrap_or o [])) (sym found) (nonempty t n)

pub each_at : (P : List ℕ × List ℕ → Type 0) (es : List (List ℕ × List ℕ)) (j : ℕ) (e : List ℕ × List ℕ) → AllByRecursion P es → slice_get es j ≡ Some e → P e
each_at P [] j e a g = absurd (cc)
each_at P (x ∷ es) zero e a g = let same : x ≡ e = cc in subst P same a.0
each_at P (x ∷ es) (suc j) e a g = each_at P es j e a.1 g

-- numbers of two keys in order
pub heads : (a b : ℕ) (p q : List ℕ) → NotAfter (a ∷ p) (b ∷ q) → a ≤ b
heads a b p q (inl l) = omega arith
heads a b p q (inr e) = omega (arith, e.0)

pub seconds : (a b : ℕ) (p q : List ℕ) → a ≡ b → NotAfter (a ∷ p) (b ∷ q) → NotAfter p q
seconds a b p q e (inl l) = absurd (omega (arith, e, l))
seconds a b p q e (inr n) = n.1

-- what stands at a place or behind it stands from where that place begins
module _ (v : SegmentValue) (k : List ℕ) (start : ℕ) (four : length k ≡ 4) (begin : IsStart k (texts.entries v.at) start) where
  abbrev Es : List (List ℕ × List ℕ)
  Es = texts.entries v.at

  pub behind : (q t : List ℕ) (j : ℕ) → length q ≡ 4 → NotAfter k q → slice_get Es j ≡ Some (q, t) → start ≤ j
  behind q t j len h g = elim (cases_lt j start) as (λ _. start ≤ j) [
    | inl l ↦ absurd (never_less q k (omega (arith, len, four)) h (begin.before j (q, t) l g))
    | inr le ↦ le
  ]

  pub inside : (q t : List ℕ) (j : ℕ) → length q ≡ 4 → NotAfter k q → slice_get Es j ≡ Some (q, t) → start < length Es
  inside q t j len h g = elim (cases_lt j (length Es)) as (λ _. start < length Es) [
    | inl l ↦ omega (arith, l, behind q t j len h g)
    | inr le ↦ (let none : slice_get Es j ≡ None = slice_get_past Es j le in absurd (cc))
  ]

  module _ (q0 t0 : List ℕ) (len0 : length q0 ≡ 4) (at : slice_get Es start ≡ Some (q0, t0)) where
    pub low : NotAfter k q0
    low = not_less q0 k (omega (arith, len0, four)) (begin.from start (q0, t0) (omega arith) at)

    -- the first of them comes no later than any other
    pub early : (q t : List ℕ) (j : ℕ) → length q ≡ 4 → NotAfter k q → slice_get Es j ≡ Some (q, t) → NotAfter q0 q
    early q t j len h g = elim (cases_lt start j) as (λ _. NotAfter q0 q) [
      | inl l ↦ less_first q0 q (omega (arith, len0, len)) (rising_at Es start j (q0, t0) (q, t) (texts.entries_sorted v.at) l at g)
      | inr le ↦ (let same : start ≡ j = omega (arith, le, behind q t j len h g) in
          let both : Some (q0, t0) ≡ Some (q, t) = sym at ∙ ap (slice_get Es) same ∙ g in
          let keys : q0 ≡ q = ap (λ (o : Option (List ℕ × List ℕ)). (unwrap_or o (q0, t0)).0) both in
          subst (NotAfter q0) keys (self q0))
    ]
      where
        self : (p : List ℕ) → NotAfter p p
        self [] = tt
        self (a ∷ p) = inr (refl, self p)
