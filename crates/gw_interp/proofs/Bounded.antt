-- What can be searched because it is bounded: the repetitions of a field that are present, and the places with a text.
use Rattle.std.proofs.Common.{◌≡◌, ℕ, zero, suc, ◌+◌, ◌<◌, ◌≤◌, ◌⊎◌, inl, inr, Bool, true, false, List, [], ◌∷◌, Option, Some, None, refl, sym, ap, ◌∙◌, subst, arith, length}
use Rattle.std.specs.Prelude.{cond, find, unwrap_or}
use Rattle.std.specs.Ordering.{nat_cmp, eq_by_cmp}
use Rattle.std.specs.Cmp.{Equal-is}
use Rattle.std.specs.Cmp.Lexicographic.{slice_cmp}
use Rattle.std.specs.FinMap as texts
use Rattle.std.specs.FinMap.{slice_cmp-IsAntisymmetric, nat_cmp-IsAntisymmetric}
use Rattle.std.proofs.lemmas.Bool.Decides.{eqb_tells, leb_tells}
use Rattle.gw_er7.specs.Message.{Texts, text_of}
use Rattle.gw_er7.specs.Presence.{SubAt, CompAt, RepAt}
use Rattle.gw_interp.specs.Meaning.{IsFirst}

abbrev pub Decided : Type 0 → Type 0
Decided P = P ⊎ (P → ⊥)

-- ---- numbers

module _ (P : ℕ → Type 0) (decide : (n : ℕ) → Decided (P n)) where
  abbrev FirstBelow : ℕ → Type 0
  FirstBelow b = ((n : ℕ) × IsFirst P n) ⊎ ((n : ℕ) → n < b → P n → ⊥)

  first_below : (b : ℕ) → FirstBelow b
  first_below zero = inr (λ n lt p. omega (arith, lt))
  first_below (suc b) = more (first_below b) (decide b)
    where
      more : FirstBelow b → Decided (P b) → FirstBelow (suc b)
      more (inl found) d = inl found
      more (inr none) (inl p) = inl (b, record { holds = p; none_before = none })
      more (inr none) (inr n) = inr (λ k lt p. elim (eqb_tells k b) [
        | inl e ↦ n (subst P e.1 p)
        | inr e ↦ none k (omega (arith, lt, e.1)) p
      ])

  module _ (b : ℕ) (bounded : (n : ℕ) → P n → n < b) where
    pub first_if : ((n : ℕ) × IsFirst P n) ⊎ (((n : ℕ) × P n) → ⊥)
    first_if = by (first_below b)
      where
        by : FirstBelow b → ((n : ℕ) × IsFirst P n) ⊎ (((n : ℕ) × P n) → ⊥)
        by (inl found) = inl found
        by (inr none) = inr (λ one. none one.0 (bounded one.0 one.1) one.1)

    pub some_if : Decided ((n : ℕ) × P n)
    some_if = by first_if
      where
        by : ((n : ℕ) × IsFirst P n) ⊎ (((n : ℕ) × P n) → ⊥) → Decided ((n : ℕ) × P n)
        by (inl found) = inl (found.0, found.1.holds)
        by (inr none) = inr none

-- ---- sums, which bound what is found

abbrev pub sum_of : {A : Type 0} → (A → ℕ) → List A → ℕ
sum_of f [] = 0
sum_of f (x ∷ xs) = f x + sum_of f xs

pub found_bounded : {A : Type 0} (f : A → ℕ) (test : A → Bool) (xs : List A) (x : A) → find test xs ≡ Some x → f x ≤ sum_of f xs
found_bounded f test [] x e = absurd (cc)
found_bounded f test (y ∷ xs) x e = by (test y) e (found_bounded f test xs x)
  where
    by : (b : Bool) → cond b (Some y) (find test xs) ≡ Some x → (find test xs ≡ Some x → f x ≤ sum_of f xs) → f x ≤ f y + sum_of f xs
    by true g later = let same : x ≡ y = cc in let value : f x ≡ f y = ap f same in omega (arith, value)
    by false g later = let low : f x ≤ sum_of f xs = later g in omega (arith, low)

abbrev total : List ℕ → ℕ
total = sum_of (λ n. n)

pub tied : (xs ys : List ℕ) → eq_by_cmp (slice_cmp nat_cmp) xs ys ≡ true → xs ≡ ys
tied xs ys t = slice_cmp-IsAntisymmetric nat_cmp-IsAntisymmetric xs ys ((Equal-is (slice_cmp nat_cmp xs ys)).0 t)

entry_bounded : (q t : List ℕ) (es : List (List ℕ × List ℕ)) → texts.find (slice_cmp nat_cmp) q es ≡ Some t → total q ≤ sum_of (λ e. total e.0) es
entry_bounded q t [] e = absurd (cc)
entry_bounded q t (x ∷ es) e = by (eq_by_cmp (slice_cmp nat_cmp) q x.0) refl e (entry_bounded q t es)
  where
    by : (b : Bool) → eq_by_cmp (slice_cmp nat_cmp) q x.0 ≡ b → cond b (Some x.1) (texts.find (slice_cmp nat_cmp) q es) ≡ Some t → (texts.find (slice_cmp nat_cmp) q es ≡ Some t → total q ≤ sum_of (λ e. total e.0) es) → total q ≤ total x.0 + sum_of (λ e. total e.0) es
    by true tie g later = let value : total q ≡ total x.0 = ap total (tied q x.0 tie) in omega (arith, value)
    by false tie g later = let low : total q ≤ sum_of (λ e. total e.0) es = later g in omega (arith, low)

-- ---- texts

abbrev pub bound : Texts → ℕ
bound m = sum_of (λ e. total e.0) (texts.entries m)

pub text_bounded : (m : Texts) (f r c k : ℕ) → 0 < length (text_of m f r c k) → f + (r + (c + k)) ≤ bound m
text_bounded m f r c k lt = by (texts.get m (f ∷ r ∷ c ∷ k ∷ [])) refl lt
  where
    by : (o : Option (List ℕ)) → texts.get m (f ∷ r ∷ c ∷ k ∷ []) ≡ o → 0 < length (unwrap_or o []) → f + (r + (c + k)) ≤ bound m
    by None e lt = absurd (omega (arith, lt))
    by (Some t) e lt =
        let low : f + (r + (c + (k + 0))) ≤ bound m = entry_bounded (f ∷ r ∷ c ∷ k ∷ []) t (texts.entries m) (sym (texts.get-entries m (f ∷ r ∷ c ∷ k ∷ [])) ∙ e) in
        omega (arith, low)

module _ (m : Texts) (f : ℕ) where
  sub_if : (r c k : ℕ) → Decided (SubAt m f r c k)
  sub_if r c k =
      elim (leb_tells 1 (length (text_of m f r c k))) [
        | inl h ↦ inl (omega (arith, h.1))
        | inr h ↦ inr (λ lt. omega (arith, h.1, lt))
      ]

  comp_if : (r c : ℕ) → Decided (CompAt m f r c)
  comp_if r c = some_if (SubAt m f r c) (sub_if r c) (suc (bound m)) (λ k lt. let low = text_bounded m f r c k lt in omega (arith, low))

  pub rep_if : (r : ℕ) → Decided (RepAt m f r)
  rep_if r = some_if (CompAt m f r) (comp_if r) (suc (bound m)) (λ c at. let low = text_bounded m f r c at.0 at.1 in omega (arith, low))
