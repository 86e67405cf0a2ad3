-- The text in the first present repetition of a field, as conditions read it.
use Rattle.std.proofs.Common.{◌≡◌, ℕ, zero, suc, ◌≤◌, inl, inr, Bool, true, false, cond, ◌==◌, List, [], ◌∷◌, Some, refl, sym, ap, ◌∙◌, subst, arith, map, slice_get}
use Rattle.std.specs.Prelude.{filter}
use Rattle.std.specs.List.{AllByRecursion}
use Rattle.std.specs.FinMap as texts
use Rattle.std.specs.FinMap.{len-entries, len-empty}
use Rattle.std.specs.Ordering.{nat_cmp}
use Rattle.std.specs.Cmp.Lexicographic.{slice_cmp}
use Rattle.std.proofs.lemmas.Bool.{cases_lt}
use Rattle.std.proofs.lemmas.List.{nil_from_length}
use Rattle.std.proofs.lemmas.Bool.Decides.{eqb_tells}
use Rattle.gw_er7.specs.Message.{Texts, text_of, SegmentValue, first_number, first_field, IsEntry, IsSegment}
use Rattle.gw_er7.specs.Presence.{RepAt}
use Rattle.gw_profile.proofs.Facts.{no_clash}
use Rattle.gw_validate.proofs.Starts.{stands, present, each_at}
use Rattle.gw_maplang.specs.Among.{Among}
use Rattle.gw_interp.specs.Meaning.{IsFirst, second_number, reps_of, least_of, text_in_least, first_text}

-- ---- the least of some numbers

least_low : (low n : ℕ) (ns : List ℕ) → AllByRecursion (λ k. low ≤ k) (n ∷ ns) → low ≤ least_of n ns
least_low low n [] h = h.0
least_low low n (k ∷ ns) h = let more : low ≤ least_of k ns = least_low low k ns h.1 in let first : low ≤ n = h.0 in omega (arith, more, first)

least_is : (low n : ℕ) (ns : List ℕ) → Among low (n ∷ ns) → AllByRecursion (λ k. low ≤ k) (n ∷ ns) → least_of n ns ≡ low
least_is low n [] (inl e) h = sym e
least_is low n [] (inr a) h = absurd a
least_is low n (k ∷ ns) (inl e) h = let more : low ≤ least_of k ns = least_low low k ns h.1 in omega (arith, e, more)
least_is low n (k ∷ ns) (inr a) h = let same : least_of k ns ≡ low = least_is low k ns a h.1 in let first : low ≤ n = h.0 in omega (arith, same, first)

-- ---- the repetitions in which entries stand

abbrev Entry : Type 0
Entry = List ℕ × List ℕ

module _ (f : ℕ) where
  abbrev reps_in : List Entry → List ℕ
  reps_in es = map second_number (filter (λ key. first_number key == f) (map (λ (e : Entry). e.0) es))

  of_field : (key : List ℕ) → (first_number key == f) ≡ true → first_number key ≡ f
  of_field key e =
      elim (eqb_tells (first_number key) f) [
        | inl h ↦ h.1
        | inr h ↦ absurd (no_clash (sym e ∙ h.0))
      ]

  is_field : (key : List ℕ) → first_number key ≡ f → (first_number key == f) ≡ false → ⊥
  is_field key same e =
      elim (eqb_tells (first_number key) f) [
        | inl h ↦ no_clash (sym h.0 ∙ e)
        | inr h ↦ h.1 same
      ]

  is_there : (es : List Entry) (j r c k : ℕ) (t : List ℕ) → slice_get es j ≡ Some (f ∷ r ∷ c ∷ k ∷ [], t) → Among r (reps_in es)
  is_there [] j r c k t g = absurd (cc)
  is_there (x ∷ es) zero r c k t g =
      let same : x ≡ (f ∷ r ∷ c ∷ k ∷ [], t) = cc in
      by (first_number x.0 == f) refl (ap (λ (e : Entry). first_number e.0) same) (ap (λ (e : Entry). second_number e.0) same)
    where
      by : (b : Bool) → (first_number x.0 == f) ≡ b → first_number x.0 ≡ f → second_number x.0 ≡ r → Among r (map second_number (cond b (x.0 ∷ filter (λ key. first_number key == f) (map (λ (e : Entry). e.0) es)) (filter (λ key. first_number key == f) (map (λ (e : Entry). e.0) es))))
      by true e first second = inl (sym second)
      by false e first second = absurd (is_field x.0 first e)
  is_there (x ∷ es) (suc j) r c k t g = by (first_number x.0 == f) (is_there es j r c k t g)
    where
      by : (b : Bool) → Among r (reps_in es) → Among r (map second_number (cond b (x.0 ∷ filter (λ key. first_number key == f) (map (λ (e : Entry). e.0) es)) (filter (λ key. first_number key == f) (map (λ (e : Entry). e.0) es))))
      by true a = inr a
      by false a = a

  -- what holds of the repetition of each entry of the field holds of each of them
  each_rep : (P : ℕ → Type 0) (es : List Entry) → ((j : ℕ) (e : Entry) → slice_get es j ≡ Some e → first_number e.0 ≡ f → P (second_number e.0)) → AllByRecursion P (reps_in es)
  each_rep P [] h = tt
  each_rep P (x ∷ es) h = by (first_number x.0 == f) refl (each_rep P es (λ j e g. h (suc j) e g))
    where
      by : (b : Bool) → (first_number x.0 == f) ≡ b → AllByRecursion P (reps_in es) → AllByRecursion P (map second_number (cond b (x.0 ∷ filter (λ key. first_number key == f) (map (λ (e : Entry). e.0) es)) (filter (λ key. first_number key == f) (map (λ (e : Entry). e.0) es))))
      by true e more = (h 0 x refl (of_field x.0 e), more)
      by false e more = more

-- ---- of a segment

module _ (v : SegmentValue) (whole : IsSegment v) (f : ℕ) where
  there : (j : ℕ) (e : Entry) → slice_get (texts.entries v.at) j ≡ Some e → first_number e.0 ≡ f → RepAt v.at f (second_number e.0)
  there j e g first = by e.0 e.1 g (each_at (IsEntry (first_field v.name)) (texts.entries v.at) j e whole.each g) first
    where
      by : (key t : List ℕ) → slice_get (texts.entries v.at) j ≡ Some (key, t) → IsEntry (first_field v.name) (key, t) → first_number key ≡ f → RepAt v.at f (second_number key)
      by [] t g is same = absurd (let four = is.key.four in omega (arith, four))
      by (a ∷ []) t g is same = absurd (let four = is.key.four in omega (arith, four))
      by (a ∷ b ∷ []) t g is same = absurd (let four = is.key.four in omega (arith, four))
      by (a ∷ b ∷ c ∷ []) t g is same = absurd (let four = is.key.four in omega (arith, four))
      by (a ∷ b ∷ c ∷ d ∷ []) t g is same = subst (λ n. RepAt v.at n b) same (c, (d, present v.at a b c d j t g is.some))
      by (a ∷ b ∷ c ∷ d ∷ n ∷ key) t g is same = absurd (let four = is.key.four in omega (arith, four))

  pub in_first : (rep : ℕ) → IsFirst (RepAt v.at f) rep → (comp sub : ℕ) → first_text v.at f comp sub ≡ text_of v.at f rep comp sub
  in_first rep is comp sub = by (reps_of v.at f) among low
    where
      among : Among rep (reps_of v.at f)
      among =
          let at = stands v.at f rep is.holds.0 is.holds.1.0 is.holds.1.1 in
          is_there f (texts.entries v.at) at.1.at rep is.holds.0 is.holds.1.0 at.0 at.1.is

      low : AllByRecursion (λ k. rep ≤ k) (reps_of v.at f)
      low = each_rep f (λ k. rep ≤ k) (texts.entries v.at) (λ j e g first. elim (cases_lt (second_number e.0) rep) as (λ _. rep ≤ second_number e.0) [
        | inl less ↦ absurd (is.none_before (second_number e.0) less (there j e g first))
        | inr le ↦ le
      ])

      by : (reps : List ℕ) → Among rep reps → AllByRecursion (λ k. rep ≤ k) reps → text_in_least v.at f comp sub reps ≡ text_of v.at f rep comp sub
      by [] a l = absurd a
      by (n ∷ ns) a l = ap (λ r. text_of v.at f r comp sub) (least_is rep n ns a l)

  pub absent_in : (((rep : ℕ) × RepAt v.at f rep) → ⊥) → (comp sub : ℕ) → first_text v.at f comp sub ≡ []
  absent_in none comp sub = by (reps_of v.at f) (each_rep f (λ k. ⊥) (texts.entries v.at) (λ j e g first. none (second_number e.0, there j e g first)))
    where
      by : (reps : List ℕ) → AllByRecursion (λ k. ⊥) reps → text_in_least v.at f comp sub reps ≡ []
      by [] h = refl
      by (n ∷ ns) h = absurd h.0

-- where there is no segment
abbrev no_texts : Texts
no_texts = texts.empty

pub in_empty : (f comp sub : ℕ) → first_text no_texts f comp sub ≡ []
in_empty f comp sub = by (reps_of no_texts f) (ap (λ (es : List Entry). map second_number (filter (λ key. first_number key == f) (map (λ (e : Entry). e.0) es))) none)
  where
    none : texts.entries no_texts ≡ []
    none = nil_from_length (texts.entries no_texts) (sym (len-entries no_texts) ∙ len-empty (slice_cmp nat_cmp) (List ℕ))

    by : (reps : List ℕ) → reps ≡ [] → text_in_least no_texts f comp sub reps ≡ []
    by [] e = refl
    by (n ∷ ns) e = absurd (cc)
