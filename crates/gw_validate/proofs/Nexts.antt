-- The next repetition that is present, and whether a component is.
use Rattle.std.proofs.Common.{◌≡◌, ℕ, zero, suc, ◌+◌, ◌-◌, ◌<◌, ◌≤◌, inl, inr, false, List, [], ◌∷◌, Option, None, Some, refl, sym, subst, arith, length, slice_get}
use Rattle.std.specs.Prelude.{MatchOption, is_some}
use Rattle.std.specs.FinMap as texts
use Rattle.std.specs.declared.cmp.Ordering.TheVariants.{Less}
use Rattle.std.proofs.lemmas.Bool.{cases_lt}
use Rattle.gw_er7.specs.Entries.{Entry}
use Rattle.gw_er7.specs.Message.{Texts, SegmentValue, IsSegment, IsEntry, first_field}
use Rattle.gw_er7.specs.Presence.{SubAt, CompAt, RepAt, FieldAt, IsStart}
use Rattle.gw_validate.specs.Breaches.{Counted, NotAfter}
use Rattle.gw_validate.specs.own.Walk.{IsBefore, IsNextRep, IsNoRep}
use Rattle.gw_validate.proofs.Walks.{self, up_to, before_on, from_start, start_at, start_end, less_here}
use Rattle.gw_validate.proofs.Keys.{order, never_less}
use Rattle.gw_validate.proofs.Starts.{stands, present, each_at, heads, seconds, inside, low, early}

module _ (v : SegmentValue) (f after start : ℕ) (whole : IsSegment v) (begin : IsStart (f ∷ (after + 1) ∷ 0 ∷ 0 ∷ []) (texts.entries v.at) start) where
  abbrev Key : List ℕ
  Key = f ∷ (after + 1) ∷ 0 ∷ 0 ∷ []

  -- a later repetition comes no earlier
  from_rep : (r c s : ℕ) → after < r → NotAfter Key (f ∷ r ∷ c ∷ s ∷ [])
  from_rep r c s h = inr (refl, up_to (after + 1) r (omega arith) (0 ∷ 0 ∷ []) (c ∷ s ∷ []) (up_to 0 c (omega arith) (0 ∷ []) (s ∷ []) (up_to 0 s (omega arith) [] [] tt)))

  pub rep_some : (r : ℕ) → RepAt v.at f r → 0 < r
  rep_some r p =
      let q = stands v.at f r p.0 p.1.0 p.1.1 in
      let entry : IsEntry (first_field v.name) (f ∷ r ∷ p.0 ∷ p.1.0 ∷ [], q.0) = each_at (IsEntry (first_field v.name)) (texts.entries v.at) q.1.at (f ∷ r ∷ p.0 ∷ p.1.0 ∷ [], q.0) whole.each q.1.is in
      entry.key.positive.1.0

  -- where no text is left, no later repetition is
  pub none_left : length (texts.entries v.at) ≤ start → IsNoRep v.at f after
  none_left le = record { none = none; some = rep_some }
    where
      none : (r : ℕ) → RepAt v.at f r → r ≤ after
      none r p = elim (cases_lt after r) as (λ _. r ≤ after) [
        | inl lt ↦ (let q = stands v.at f r p.0 p.1.0 p.1.1 in
            absurd (omega (arith, le, inside v Key start refl begin (f ∷ r ∷ p.0 ∷ p.1.0 ∷ []) q.0 q.1.at refl (from_rep r p.0 p.1.0 lt) q.1.is)))
        | inr ge ↦ ge
      ]

  module _ (g0 r0 c0 s0 : ℕ) (t0 : List ℕ) (at : slice_get (texts.entries v.at) start ≡ Some (g0 ∷ r0 ∷ c0 ∷ s0 ∷ [], t0)) where
    abbrev Found : List ℕ
    Found = g0 ∷ r0 ∷ c0 ∷ s0 ∷ []

    no_earlier : NotAfter Key Found
    no_earlier = low v Key start refl begin Found t0 refl at

    -- the first entry from the start on comes no later than any of a later repetition
    no_later : (r c s : ℕ) → after < r → SubAt v.at f r c s → NotAfter Found (f ∷ r ∷ c ∷ s ∷ [])
    no_later r c s h p =
        let q = stands v.at f r c s p in
        early v Key start refl begin Found t0 refl at (f ∷ r ∷ c ∷ s ∷ []) q.0 q.1.at refl (from_rep r c s h) q.1.is

    -- where it is of another field, no later repetition is present
    pub none_here : (g0 ≡ f → ⊥) → IsNoRep v.at f after
    none_here apart = record { none = none; some = rep_some }
      where
        none : (r : ℕ) → RepAt v.at f r → r ≤ after
        none r p = elim (cases_lt after r) as (λ _. r ≤ after) [
          | inl lt ↦ (let up = heads g0 f (r0 ∷ c0 ∷ s0 ∷ []) (r ∷ p.0 ∷ p.1.0 ∷ []) (no_later r p.0 p.1.0 lt p.1.1) in
              let down = heads f g0 ((after + 1) ∷ 0 ∷ 0 ∷ []) (r0 ∷ c0 ∷ s0 ∷ []) no_earlier in
              absurd (apart (omega arith)))
          | inr ge ↦ ge
        ]

    -- where it is of the field, it is of the next repetition
    module _ (same : g0 ≡ f) where
      pub next_after : after < r0
      next_after =
          let l = heads (after + 1) r0 (0 ∷ 0 ∷ []) (c0 ∷ s0 ∷ []) (seconds f g0 ((after + 1) ∷ 0 ∷ 0 ∷ []) (r0 ∷ c0 ∷ s0 ∷ []) (sym same) no_earlier) in omega arith

      pub next_is : IsNextRep v.at f after r0
      next_is = record { there = there; behind = next_after; first = first; some = rep_some }
        where
          entry : IsEntry (first_field v.name) (Found, t0)
          entry = each_at (IsEntry (first_field v.name)) (texts.entries v.at) start (Found, t0) whole.each at

          there : RepAt v.at f r0
          there = subst (λ n. RepAt v.at n r0) same (c0, (s0, present v.at g0 r0 c0 s0 start t0 at entry.some))

          first : (r : ℕ) → after < r → RepAt v.at f r → r0 ≤ r
          first r h p = heads r0 r (c0 ∷ s0 ∷ []) (p.0 ∷ p.1.0 ∷ []) (seconds g0 f (r0 ∷ c0 ∷ s0 ∷ []) (r ∷ p.0 ∷ p.1.0 ∷ []) same (no_later r p.0 p.1.0 h p.1.1))

      pub next_start : IsBefore (f ∷ r0 ∷ 0 ∷ 0 ∷ []) (texts.entries v.at) start
      next_start =
          before_on Key (f ∷ r0 ∷ 0 ∷ 0 ∷ []) (texts.entries v.at) start refl (inr (refl, up_to (after + 1) r0 (omega (arith, next_after)) (0 ∷ 0 ∷ []) (0 ∷ 0 ∷ []) (self (0 ∷ 0 ∷ [])))) (from_start Key (texts.entries v.at) start begin)

-- where no repetition behind 0 is, the field is absent
pub no_field : (m : Texts) (f : ℕ) (o : Option ℕ) → MatchOption o (IsNoRep m f 0) (IsNextRep m f 0) → is_some o ≡ false → FieldAt m f → ⊥
no_field m f None h e p = omega (arith, h.none p.0 p.1, h.some p.0 p.1)
no_field m f (Some r) h e p = cc

pub each_some : (m : Texts) (f : ℕ) (o : Option ℕ) → MatchOption o (IsNoRep m f 0) (IsNextRep m f 0) → (r : ℕ) → RepAt m f r → 0 < r
each_some m f None h = h.some
each_some m f (Some r) h = h.some

-- ---- the first text of a field

pub below_field : (f g r c s : ℕ) → g < f → order (g ∷ r ∷ c ∷ s ∷ []) (f ∷ 1 ∷ 0 ∷ 0 ∷ []) ≡ Less
below_field f g r c s lt = less_here (g ∷ r ∷ c ∷ s ∷ []) (f ∷ 1 ∷ 0 ∷ 0 ∷ []) refl (λ n. omega (arith, lt, heads f g (1 ∷ 0 ∷ 0 ∷ []) (r ∷ c ∷ s ∷ []) n))

module _ (v : SegmentValue) (f n : ℕ) (whole : IsSegment v) (before : IsBefore (f ∷ 1 ∷ 0 ∷ 0 ∷ []) (texts.entries v.at) n) where
  -- where no text is left
  pub none_behind : length (texts.entries v.at) ≤ n → IsNoRep v.at f 0
  none_behind past = none_left v f 0 n whole (start_end (f ∷ 1 ∷ 0 ∷ 0 ∷ []) (texts.entries v.at) n before past) past

  pub field_start : (g r c s : ℕ) (t : List ℕ) → slice_get (texts.entries v.at) n ≡ Some (g ∷ r ∷ c ∷ s ∷ [], t) → f ≤ g → IsStart (f ∷ 1 ∷ 0 ∷ 0 ∷ []) (texts.entries v.at) n
  field_start g r c s t at le =
      start_at (f ∷ 1 ∷ 0 ∷ 0 ∷ []) (texts.entries v.at) n (g ∷ r ∷ c ∷ s ∷ [], t) (texts.entries_sorted v.at) before at (never_less (g ∷ r ∷ c ∷ s ∷ []) (f ∷ 1 ∷ 0 ∷ 0 ∷ []) refl after)
    where
      entry : IsEntry (first_field v.name) (g ∷ r ∷ c ∷ s ∷ [], t)
      entry = each_at (IsEntry (first_field v.name)) (texts.entries v.at) n (g ∷ r ∷ c ∷ s ∷ [], t) whole.each at

      some : 0 < r
      some = entry.key.positive.1.0

      after : NotAfter (f ∷ 1 ∷ 0 ∷ 0 ∷ []) (g ∷ r ∷ c ∷ s ∷ [])
      after = up_to f g le (1 ∷ 0 ∷ 0 ∷ []) (r ∷ c ∷ s ∷ []) (up_to 1 r (omega (arith, some)) (0 ∷ 0 ∷ []) (c ∷ s ∷ []) (up_to 0 c (omega arith) (0 ∷ []) (s ∷ []) (up_to 0 s (omega arith) [] [] tt)))

-- ---- a component

module _ (v : SegmentValue) (f r c start : ℕ) (whole : IsSegment v) (begin : IsStart (f ∷ r ∷ c ∷ 0 ∷ []) (texts.entries v.at) start) where
  abbrev First : List ℕ
  First = f ∷ r ∷ c ∷ 0 ∷ []

  entry_at : (q t : List ℕ) (j : ℕ) → slice_get (texts.entries v.at) j ≡ Some (q, t) → IsEntry (first_field v.name) (q, t)
  entry_at q t j g = each_at (IsEntry (first_field v.name)) (texts.entries v.at) j (q, t) whole.each g

  -- a text of the component comes no earlier than its first
  from_sub : (s : ℕ) → NotAfter First (f ∷ r ∷ c ∷ s ∷ [])
  from_sub s = inr (refl, inr (refl, inr (refl, up_to 0 s (omega arith) [] [] tt)))

  pub comp_within : CompAt v.at f r c → start < length (texts.entries v.at)
  comp_within p =
      let q = stands v.at f r c p.0 p.1 in
      inside v First start refl begin (f ∷ r ∷ c ∷ p.0 ∷ []) q.0 q.1.at refl (from_sub p.0) q.1.is

  module _ (g0 r0 c0 s0 : ℕ) (t0 : List ℕ) (at : slice_get (texts.entries v.at) start ≡ Some (g0 ∷ r0 ∷ c0 ∷ s0 ∷ [], t0)) where
    pub comp_here : g0 ≡ f → r0 ≡ r → c0 ≡ c → CompAt v.at f r c
    comp_here ef er ec =
        subst (λ n. CompAt v.at n r c) ef (subst (λ n. CompAt v.at g0 n c) er (subst (λ n. CompAt v.at g0 r0 n) ec
        (s0, present v.at g0 r0 c0 s0 start t0 at (entry_at (g0 ∷ r0 ∷ c0 ∷ s0 ∷ []) t0 start at).some)))

    -- where the component is present, the first text from there on is of it
    pub comp_is : CompAt v.at f r c → (g0 ≡ f) × (r0 ≡ r) × (c0 ≡ c)
    comp_is p =
        let q = stands v.at f r c p.0 p.1 in
        let s = p.0 in
        let later = early v First start refl begin (g0 ∷ r0 ∷ c0 ∷ s0 ∷ []) t0 refl at (f ∷ r ∷ c ∷ s ∷ []) q.0 q.1.at refl (from_sub s) q.1.is in
        let earlier = low v First start refl begin (g0 ∷ r0 ∷ c0 ∷ s0 ∷ []) t0 refl at in
        let field : g0 ≡ f = equal g0 f (r0 ∷ c0 ∷ s0 ∷ []) (r ∷ c ∷ s ∷ []) (r ∷ c ∷ 0 ∷ []) later earlier in
        let later = seconds g0 f (r0 ∷ c0 ∷ s0 ∷ []) (r ∷ c ∷ s ∷ []) field later in
        let earlier = seconds f g0 (r ∷ c ∷ 0 ∷ []) (r0 ∷ c0 ∷ s0 ∷ []) (sym field) earlier in
        let rep : r0 ≡ r = equal r0 r (c0 ∷ s0 ∷ []) (c ∷ s ∷ []) (c ∷ 0 ∷ []) later earlier in
        let later = seconds r0 r (c0 ∷ s0 ∷ []) (c ∷ s ∷ []) rep later in
        let earlier = seconds r r0 (c ∷ 0 ∷ []) (c0 ∷ s0 ∷ []) (sym rep) earlier in
        (field, rep, equal c0 c (s0 ∷ []) (s ∷ []) (0 ∷ []) later earlier)
      where
        equal : (a b : ℕ) (x y z : List ℕ) → NotAfter (a ∷ x) (b ∷ y) → NotAfter (b ∷ z) (a ∷ x) → a ≡ b
        equal a b x y z up down = omega (arith, heads a b x y up, heads b a z x down)

-- a text at a place that is of a component
pub of_comp : (es : List Entry) (f r c s n g0 r0 c0 s0 : ℕ) (t : List ℕ) → slice_get es n ≡ Some (g0 ∷ r0 ∷ c0 ∷ s0 ∷ [], t) → (g0 ≡ f) × (r0 ≡ r) × (c0 ≡ c) → s ≡ s0 → slice_get es n ≡ Some (f ∷ r ∷ c ∷ s ∷ [], t)
of_comp es f r c s n g0 r0 c0 s0 t at is sub =
    subst (λ i. slice_get es n ≡ Some (i ∷ r ∷ c ∷ s ∷ [], t)) is.0 (subst (λ i. slice_get es n ≡ Some (g0 ∷ i ∷ c ∷ s ∷ [], t)) is.1 (subst (λ i. slice_get es n ≡ Some (g0 ∷ r0 ∷ i ∷ s ∷ [], t)) is.2
    (subst (λ i. slice_get es n ≡ Some (g0 ∷ r0 ∷ c0 ∷ i ∷ [], t)) (sym sub) at)))

-- nothing is present between
pub counted_gap : (P : ℕ → Type 0) (n r k : ℕ) → n < r → ((j : ℕ) → n < j → P j → r ≤ j) → Counted P n k → Counted P (r - 1) k
counted_gap P n zero k lt none c = absurd (omega arith)
counted_gap P n (suc r) k lt none c = subst (λ i. Counted P i k) (down r) (up (r - n) r (omega arith) (λ j a p. none j a p) c)
  where
    down : (r : ℕ) → r ≡ suc r - 1
    down r = omega arith

    up : (d i : ℕ) → i ≡ d + n → ((j : ℕ) → n < j → P j → suc i ≤ j) → Counted P n k → Counted P i k
    up zero i e none c = subst (λ j. Counted P j k) (let s : n ≡ i = omega arith in s) c
    up (suc d) zero e none c = absurd (omega arith)
    up (suc d) (suc i) e none c = inr (λ p. let w = none (suc i) (omega arith) p in omega arith, up d i (omega arith) (λ j a p. let w = none j a p in omega arith) c)

-- where one of the numbers is present, some are counted
pub some_counted : (P : ℕ → Type 0) (n r k : ℕ) → P r → 0 < r → r ≤ n → Counted P n k → 0 < k
some_counted P zero r k p some le c = absurd (omega (arith, some, le))
some_counted P (suc n) r k p some le (inl c) = omega (arith, c.2)
some_counted P (suc n) r k p some le (inr c) = elim (cases_lt r (suc n)) as (λ _. 0 < k) [
  | inl lt ↦ some_counted P n r k p some (omega arith) c.1
  | inr ge ↦ absurd (c.0 (subst P (let same : r ≡ suc n = omega (arith, le, ge) in same) p))
]

pub counted_yes : (P : ℕ → Type 0) (r k : ℕ) → 0 < r → Counted P (r - 1) k → P r → Counted P r (k + 1)
counted_yes P zero k lt c p = absurd (omega arith)
counted_yes P (suc r) k lt c p = inl (p, k, (let e : k + 1 ≡ suc k = omega arith in e), subst (λ j. Counted P j k) (let e : suc r - 1 ≡ r = omega arith in e) c)

pub next_counted : (P : ℕ → Type 0) (n r k : ℕ) → n < r → P r → ((j : ℕ) → n < j → P j → r ≤ j) → Counted P n k → Counted P r (k + 1)
next_counted P n r k lt p first c = counted_yes P r k (omega arith) (counted_gap P n r k lt first c) p
