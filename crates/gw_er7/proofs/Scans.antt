-- A search, one byte at a time or many.
use Rattle.std.proofs.Common.{◌≡◌, ℕ, ◌+◌, ◌-◌, ◌<◌, ◌≤◌, inl, inr, Bool, true, false, List, length, get_or, take, drop, refl, sym, ap, subst, ◌∙◌, arith}
use Rattle.std.specs.List.{list_any, position_or_len}
use Rattle.std.proofs.lemmas.Bool.{cases_lt, true≢false}
use Rattle.std.proofs.lemmas.List.{get_or-take, get_or-drop, length-drop, length-take}
use Rattle.std.proofs.lemmas.List.Elements.{All-from_get_or}
use Rattle.std.proofs.lemmas.List.Folds.{list_any_at, list_any_none}
use Rattle.std.proofs.lemmas.List.Sums.{position_or_len_is, fails_before_first, passes_at_first}
use Rattle.gw_er7.specs.own.Scanned.{FailsTo}

module _ (P : ℕ → Bool) (bytes : List ℕ) (n : ℕ) (fails : FailsTo P bytes n) where
  pub fails_more : P (get_or bytes n 0) ≡ false → FailsTo P bytes (n + 1)
  fails_more here i lt = elim (cases_lt i n) as (λ _. P (get_or bytes i 0) ≡ false) [
    | inl l ↦ fails i l
    | inr ge ↦ (let same : n ≡ i = omega (arith, lt, ge) in subst (λ k. P (get_or bytes k 0) ≡ false) same here)
  ]

  pub passes_here : n < length bytes → P (get_or bytes n 0) ≡ true → n ≡ position_or_len P bytes
  passes_here lt here = sym (position_or_len_is P bytes n 0 (omega (arith, lt)) fails (λ _. here))

  -- a byte that passes stands there or behind
  pub not_past : position_or_len P bytes < length bytes → n ≤ position_or_len P bytes
  not_past there = elim (cases_lt (position_or_len P bytes) n) as (λ _. n ≤ position_or_len P bytes) [
    | inl l ↦ absurd (true≢false (sym (passes_at_first P bytes 0 there) ∙ fails (position_or_len P bytes) l))
    | inr ge ↦ ge
  ]

  pub fails_all : n ≤ length bytes → length bytes ≤ n → n ≡ position_or_len P bytes
  fails_all le ge = sym (position_or_len_is P bytes n 0 le fails (λ lt. absurd (omega (arith, ge, lt))))

-- nor do the next ones, one behind the other
module _ (P : ℕ → Bool) (bytes : List ℕ) (n : ℕ) (fails : FailsTo P bytes n) (first : P (get_or bytes n 0) ≡ false) (second : P (get_or bytes (n + 1) 0) ≡ false) where
  pub fails_two : FailsTo P bytes (n + 2)
  fails_two = let e : n + 1 + 1 ≡ n + 2 = omega arith in subst (FailsTo P bytes) e (fails_more P bytes (n + 1) (fails_more P bytes n fails first) second)

  pub fails_three : P (get_or bytes (n + 2) 0) ≡ false → FailsTo P bytes (n + 3)
  fails_three third = let e : n + 2 + 1 ≡ n + 3 = omega arith in subst (FailsTo P bytes) e (fails_more P bytes (n + 2) fails_two third)

  pub fails_four : P (get_or bytes (n + 2) 0) ≡ false → P (get_or bytes (n + 3) 0) ≡ false → FailsTo P bytes (n + 4)
  fails_four third fourth = let e : n + 3 + 1 ≡ n + 4 = omega arith in subst (FailsTo P bytes) e (fails_more P bytes (n + 3) (fails_three third) fourth)

-- nor does it pass up to a later place
module _ (P : ℕ → Bool) (bytes : List ℕ) (at m : ℕ) (fails : FailsTo P bytes at) where
  pub fails_on : list_any P (take (m - at) (drop at bytes)) ≡ false → m ≤ length bytes → FailsTo P bytes m
  fails_on none le i lt = elim (cases_lt i at) as (λ _. P (get_or bytes i 0) ≡ false) [
    | inl l ↦ fails i l
    | inr ge ↦ absent (P (get_or bytes i 0)) refl ge
  ]
    where
      there : at ≤ i → get_or (take (m - at) (drop at bytes)) (i - at) 0 ≡ get_or bytes i 0
      there ge = get_or-take (m - at) (drop at bytes) (i - at) 0 (omega (arith, lt, ge)) ∙ get_or-drop at bytes (i - at) 0 ∙ ap (λ (k : ℕ). get_or bytes k 0) (omega (arith, ge))

      absent : (b : Bool) → P (get_or bytes i 0) ≡ b → at ≤ i → b ≡ false
      absent false e ge = refl
      absent true e ge =
          let short : i - at < length (take (m - at) (drop at bytes)) = omega (arith, lt, ge, le, length-take (m - at) (drop at bytes), length-drop at bytes) in
          sym (list_any_at P (take (m - at) (drop at bytes)) (i - at) 0 short (ap P (there ge) ∙ e)) ∙ none

-- where a byte of a part passes, one passes in the whole
pub passes_in : (P : ℕ → Bool) (bytes : List ℕ) (at n : ℕ) → list_any P (take n (drop at bytes)) ≡ true → position_or_len P bytes < length bytes
passes_in P bytes at n some = elim (cases_lt (position_or_len P bytes) (length bytes)) as (λ _. position_or_len P bytes < length bytes) [
  | inl l ↦ l
  | inr ge ↦ absurd (true≢false (sym some ∙ none ge))
]
  where
    part : List ℕ
    part = take n (drop at bytes)

    each : length bytes ≤ position_or_len P bytes → (i : ℕ) → i < length part → P (get_or part i 0) ≡ false
    each ge i lt =
        let within : i < n = omega (arith, lt, length-take n (drop at bytes)) in
        let short : at + i < length bytes = omega (arith, lt, length-take n (drop at bytes), length-drop at bytes) in
        ap P (get_or-take n (drop at bytes) i 0 within ∙ get_or-drop at bytes i 0) ∙ fails_before_first P bytes (at + i) 0 (omega (arith, short, ge))

    none : length bytes ≤ position_or_len P bytes → list_any P part ≡ false
    none ge = list_any_none P part (All-from_get_or (λ b. P b ≡ false) part 0 (each ge))
