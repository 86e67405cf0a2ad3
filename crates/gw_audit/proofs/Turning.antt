-- First numbers at which a test holds.
use Rattle.std.proofs.Common.{◌≡◌, ◌≢◌, ℕ, zero, suc, ◌+◌, ◌-◌, ◌<◌, ◌≤◌, ◌%◌, ◌⊎◌, inl, inr, Bool, true, false, List, [], ◌∷◌, ◌++◌, length, get_or, Option, None}
use Rattle.std.proofs.Common.{Some, Ok, Err, refl, sym, ap, subst, ◌∙◌, arith, length-append}
use Rattle.std.specs.Prelude.{nat_le, ◌||◌, slice_get}
use Rattle.std.specs.List.{list_any, prefix_len, range_with_len}
use Rattle.std.specs.List.Sorted.{IsStrictlyIncreasing, IsBinarySearchResult}
use Rattle.std.specs.Ordering.{nat_cmp}
use Rattle.std.proofs.lemmas.List.{get_or_append_left, get_or_push}
use Rattle.std.proofs.lemmas.Bool.{cases_lt, false≢true, le-leb, leb-false, leb-true, lt-leb}
use Rattle.std.proofs.lemmas.Option.{slice_get-get_or, slice_get_past}
use Rattle.std.proofs.lemmas.List.Folds.{list_any_at}
use Rattle.std.proofs.lemmas.List.FromFn.{length-range_with_len, get_or-range_with_len}
use Rattle.std.proofs.lemmas.List.Elements.{All-from_get_or}
use Rattle.std.proofs.lemmas.List.Kept.{AllPairs-from_increasing}
use Rattle.std.proofs.lemmas.List.Sorted.{searched}
use Rattle.std.proofs.lemmas.List.Sums.{prefix_len-le-length, prefix_len_passes, prefix_len_stops}
use Rattle.gw_reorder.proofs.Places.{equals, differs, rising_more}
use Rattle.gw_audit.specs.Turns.{HoldsFrom, IsFirstFrom, Passes, Tracks, TracksTo, TurnsAt, is_even, is_within}

-- ---- between two numbers

none_from : (test : ℕ → Bool) (low n : ℕ) → ((k : ℕ) → low ≤ k → k < low + n → test k ≡ false) → list_any test (range_with_len low n) ≡ false
none_from test low zero none = refl
none_from test low (suc n) none =
    let first : test low ≡ false = none low (omega arith) (omega arith) in
    ap (λ b. b || list_any test (range_with_len (low + 1) n)) first ∙ none_from test (low + 1) n (λ k above below. none k (omega arith) (omega arith))

-- a test holds between two numbers just where the first number at which it does isn't past them
pub between : (test : ℕ → Bool) (low high : ℕ) (first : Option ℕ) → IsFirstFrom low test first
    → list_any test (range_with_len low (high + 1 - low)) ≡ is_within high first
between test low high None none = none_from test low (high + 1 - low) (λ k above below. none k above)
between test low high (Some k) first = by (cases_lt high k)
  where
    by : (high < k) ⊎ (k ≤ high) → list_any test (range_with_len low (high + 1 - low)) ≡ nat_le k high
    by (inl past) = none_from test low (high + 1 - low) (λ p a b. first.before p a (omega arith)) ∙ sym (lt-leb k high past)
    by (inr within) =
        let above : low ≤ k = first.above in
        let place : get_or (range_with_len low (high + 1 - low)) (k - low) 0 ≡ k =
        (let e = get_or-range_with_len low (high + 1 - low) (k - low) 0 (omega (arith, above)) in omega (arith, e, above)) in
        list_any_at test (range_with_len low (high + 1 - low)) (k - low) 0 (let l = length-range_with_len low (high + 1 - low) in omega (arith, l, above))
        (ap test place ∙ first.holds)
        ∙ sym (le-leb k high within)

-- ---- a test that turns

even_next : (i : ℕ) → is_even i ≡ false → is_even (i + 1) ≡ true
even_next i odd = let other : i % 2 ≢ 0 = (λ e. false≢true (sym odd ∙ equals (i % 2) 0 e)) in equals ((i + 1) % 2) 0 (omega (arith, other))

rising_weakly : (xs : List ℕ) → IsStrictlyIncreasing xs → (i j : ℕ) → i ≤ j → j < length xs → get_or xs i 0 ≤ get_or xs j 0
rising_weakly xs rising i j le lt = by (cases_lt i j)
  where
    by : (i < j) ⊎ (j ≤ i) → get_or xs i 0 ≤ get_or xs j 0
    by (inl below) = let less : get_or xs i 0 < get_or xs j 0 = AllPairs-from_increasing xs rising i j 0 below lt in omega arith
    by (inr past) = let same : i ≡ j = omega arith in let goal : get_or xs i 0 ≡ get_or xs j 0 = ap (λ k. get_or xs k 0) same in omega arith

-- what a binary search tells of how many numbers are at most low
pub passes_found : (ats : List ℕ) (low i : ℕ) → IsStrictlyIncreasing ats → IsBinarySearchResult (λ y. nat_cmp y low) ats (Ok i) → Passes ats low (i + 1)
passes_found ats low i rising found =
    let hit = searched ats low (Ok i) found (rising_weakly ats rising) in
    record {
      few = let a = hit.0 in omega (arith, a);
      before = λ p lt. let b = rising_weakly ats rising p i (omega arith) hit.0 in let e = hit.1 in omega (arith, b, e);
      after = λ p le lt. let b = AllPairs-from_increasing ats rising i p 0 (omega arith) lt in let e = hit.1 in omega (arith, b, e);
    }

pub passes_missed : (ats : List ℕ) (low i : ℕ) → IsStrictlyIncreasing ats → IsBinarySearchResult (λ y. nat_cmp y low) ats (Err i) → Passes ats low i
passes_missed ats low i rising found =
    let miss = searched ats low (Err i) found (rising_weakly ats rising) in
    record {
      few = let a = miss.0 in omega (arith, a);
      before = λ p lt. let b = miss.1 p lt in omega (arith, b);
      after = λ p le lt. miss.2 p le lt;
    }

-- at each of the numbers one more is passed
passes_at : (ats : List ℕ) (p : ℕ) → IsStrictlyIncreasing ats → p < length ats → Passes ats (get_or ats p 0) (p + 1)
passes_at ats p rising lt = record {
  few = omega arith;
  before = λ q below. rising_weakly ats rising q p (omega arith) lt;
  after = λ q above within. AllPairs-from_increasing ats rising p q 0 (omega arith) within;
}

-- where an odd number of them was passed, a test that turns there holds from the next of them on
pub even_next_at : (test : ℕ → Bool) (ats : List ℕ) (low count : ℕ) → TurnsAt test ats → Passes ats low count → is_even count ≡ false
    → IsFirstFrom low test (slice_get ats count)
even_next_at test ats low count turns here odd = by (cases_lt count (length ats))
  where
    -- up to the next of them none is
    later : (k : ℕ) → low ≤ k → ((p : ℕ) → count ≤ p → p < length ats → k < get_or ats p 0) → test k ≡ false
    later k le next =
        turns.tells k count (record { few = here.few; before = λ p lt. (let b = here.before p lt in omega (arith, b, le)); after = next }) ∙ odd

    by : (count < length ats) ⊎ (length ats ≤ count) → IsFirstFrom low test (slice_get ats count)
    by (inl within) =
        let above = here.after count (omega arith) within in
        subst (IsFirstFrom low test) (sym (slice_get-get_or ats count 0 within)) (record {
          above = omega (arith, above);
          holds = turns.tells (get_or ats count 0) (count + 1) (passes_at ats count turns.rising within) ∙ even_next count odd;
          before = λ p a b. later p a (λ q le lt. let c = rising_weakly ats turns.rising count q le lt in omega (arith, b, c));
        })
    by (inr past) = subst (IsFirstFrom low test) (sym (slice_get_past ats count past)) (λ k a. later k a (λ p le lt. absurd (omega arith)))

-- ---- a test that holds from one of them to the next

-- of each number it can be said how many are passed
pub passed : (ats : List ℕ) → IsStrictlyIncreasing ats → (k : ℕ) → (i : ℕ) × Passes ats k i
passed ats rising k = (
  prefix_len (λ a. nat_le a k) ats,
  record {
    few = prefix_len-le-length (λ a. nat_le a k) ats;
    before = λ p lt. leb-true (get_or ats p 0) k (prefix_len_passes (λ a. nat_le a k) ats p 0 lt);
    after = λ p le lt.
        (let stops = leb-false (get_or ats (prefix_len (λ a. nat_le a k) ats) 0) k (prefix_len_stops (λ a. nat_le a k) ats 0 (omega (arith, le, lt))) in
        let more = rising_weakly ats rising (prefix_len (λ a. nat_le a k) ats) p le lt in
        omega (arith, stops, more));
  },
)

module _ (test : ℕ → Bool) (ats : List ℕ) (low count v : ℕ) (holds : HoldsFrom test v ats) (here : Passes ats low count) where
  pub with_past : v < count → IsFirstFrom low test None
  with_past past k a = at (passed ats holds.rising k)
    where
      at : ((i : ℕ) × Passes ats k i) → test k ≡ false
      at (i, there) = holds.tells k i there ∙ differs i v (by (cases_lt i count))
        where
          by : (i < count) ⊎ (count ≤ i) → i ≢ v
          by (inl less) =
              let f = here.few in let b = here.before i less in let c = there.after i (omega arith) (omega arith) in absurd (omega (arith, b, c))
          by (inr more) = λ e. omega arith

  pub with_later : count < v → IsFirstFrom low test (slice_get ats (v - 1))
  with_later more = by (cases_lt (v - 1) (length ats))
    where
      below : (k i : ℕ) → Passes ats k i → i < v → test k ≡ false
      below k i there lt = holds.tells k i there ∙ differs i v (λ e. omega arith)

      before : v - 1 < length ats → (k : ℕ) → k < get_or ats (v - 1) 0 → ((i : ℕ) × Passes ats k i) → test k ≡ false
      before within k lt (i, there) = below k i there (less (cases_lt i v))
        where
          less : (i < v) ⊎ (v ≤ i) → i < v
          less (inl is) = is
          less (inr not) = let b = there.before (v - 1) (omega arith) in absurd (omega (arith, b))

      beyond : length ats ≤ v - 1 → (k : ℕ) → ((i : ℕ) × Passes ats k i) → test k ≡ false
      beyond past k (i, there) = let f = there.few in below k i there (omega (arith, f))

      by : (v - 1 < length ats) ⊎ (length ats ≤ v - 1) → IsFirstFrom low test (slice_get ats (v - 1))
      by (inl within) =
          let above = here.after (v - 1) (omega arith) within in
          let next : v - 1 + 1 ≡ v = omega arith in
          subst (IsFirstFrom low test) (sym (slice_get-get_or ats (v - 1) 0 within)) (record {
            above = omega (arith, above);
            holds = holds.tells (get_or ats (v - 1) 0) (v - 1 + 1) (passes_at ats (v - 1) holds.rising within) ∙ equals (v - 1 + 1) v next;
            before = λ k a lt. before within k lt (passed ats holds.rising k);
          })
      by (inr past) = subst (IsFirstFrom low test) (sym (slice_get_past ats (v - 1) past)) (λ k a. beyond past k (passed ats holds.rising k))

-- ---- so far

all_passed : (m : ℕ) (ats : List ℕ) (k i : ℕ) → m ≤ k → ((p : ℕ) → p < length ats → get_or ats p 0 ≤ m) → Passes ats k i → i ≡ length ats
all_passed m ats k i le below there = by (cases_lt i (length ats))
  where
    by : (i < length ats) ⊎ (length ats ≤ i) → i ≡ length ats
    by (inl less) = let a = there.after i (omega arith) less in let b = below i less in absurd (omega (arith, a, b, le))
    by (inr more) = let f = there.few in omega (arith, f)

-- how many are passed below the last of them
pushed_below : (ats : List ℕ) (at k i : ℕ) → k < at → Passes (ats ++ at ∷ []) k i → Passes ats k i
pushed_below ats at k i lt there =
    let few : i ≤ length ats = by (cases_lt (length ats) i) in
    record {
      few = few;
      before = λ p less. (let b = there.before p less in let e = get_or_append_left ats (at ∷ []) 0 p (omega (arith, few)) in omega (arith, b, e));
      after = λ p le within. (let l = length-append ats (at ∷ []) in let b = there.after p le (omega (arith, l)) in
          let e = get_or_append_left ats (at ∷ []) 0 p within in omega (arith, b, e));
    }
  where
    by : (length ats < i) ⊎ (i ≤ length ats) → i ≤ length ats
    by (inl more) = let b = there.before (length ats) more in let e = get_or_push ats at 0 (length ats) refl in absurd (omega (arith, b, e, lt))
    by (inr is) = is

module _ (So : ℕ → ℕ → Type 0) (m : ℕ) (ats : List ℕ) (was : TracksTo So m ats) where
  -- at m all of them are passed
  pub at_last : So m (length ats)
  at_last = was.tells m (length ats) (omega arith) (record { few = omega arith; before = was.below; after = λ p le lt. absurd (omega arith) })

  -- none at the next number
  pub stay : So (m + 1) (length ats) → TracksTo So (m + 1) ats
  stay now = record {
    rising = was.rising;
    below = λ p lt. (let b = was.below p lt in omega (arith, b));
    tells = λ k i le there. by k i le there (cases_lt m k);
  }
    where
      by : (k i : ℕ) → k ≤ m + 1 → Passes ats k i → (m < k) ⊎ (k ≤ m) → So k i
      by k i le there (inl past) =
          let here : m + 1 ≡ k = omega (arith, le, past) in
          subst (λ x. So x i) here (subst (So (m + 1)) (sym (all_passed m ats k i (omega (arith, past)) was.below there)) now)
      by k i le there (inr within) = was.tells k i within there

  -- one there
  pub push : So (m + 1) (length ats + 1) → TracksTo So (m + 1) (ats ++ (m + 1) ∷ [])
  push now = record {
    rising = rising_more ats (m + 1) was.rising (All-from_get_or (λ p. p < m + 1) ats 0 (λ p lt. (let b = was.below p lt in omega (arith, b))));
    below = λ p lt. at_most p lt (cases_lt p (length ats));
    tells = λ k i le there. by k i le there (cases_lt m k);
  }
    where
      at_most : (p : ℕ) → p < length (ats ++ (m + 1) ∷ []) → (p < length ats) ⊎ (length ats ≤ p) → get_or (ats ++ (m + 1) ∷ []) p 0 ≤ m + 1
      at_most p lt (inl within) = let b = was.below p within in let e = get_or_append_left ats ((m + 1) ∷ []) 0 p within in omega (arith, b, e)
      at_most p lt (inr past) =
          let l = length-append ats ((m + 1) ∷ []) in
          let same : p ≡ length ats = omega (arith, l, lt, past) in
          let e = get_or_push ats (m + 1) 0 p (sym same) in
          omega (arith, e)

      by : (k i : ℕ) → k ≤ m + 1 → Passes (ats ++ (m + 1) ∷ []) k i → (m < k) ⊎ (k ≤ m) → So k i
      by k i le there (inl past) =
          let here : m + 1 ≡ k = omega (arith, le, past) in
          let l = length-append ats ((m + 1) ∷ []) in
          let all = all_passed (m + 1) (ats ++ (m + 1) ∷ []) k i (omega (arith, past)) (λ p lt. at_most p lt (cases_lt p (length ats))) there in
          let count : length ats + 1 ≡ i = omega (arith, all, l) in
          subst (λ x. So x i) here (subst (So (m + 1)) count now)
      by k i le there (inr within) = was.tells k i within (pushed_below ats (m + 1) k i (omega (arith, within)) there)

  -- where nothing changes any more, all is told
  pub done : ((k : ℕ) → m ≤ k → So m (length ats) → So k (length ats)) → Tracks So ats
  done ends = record { rising = was.rising; tells = λ k i there. by k i there (cases_lt m k) }
    where
      by : (k i : ℕ) → Passes ats k i → (m < k) ⊎ (k ≤ m) → So k i
      by k i there (inl past) =
          subst (So k) (sym (all_passed m ats k i (omega (arith, past)) was.below there)) (ends k (omega (arith, past)) at_last)
      by k i there (inr within) = was.tells k i within there

-- what is counted at the next number
module _ (f : ℕ → ℕ) (m at : ℕ) (ats : List ℕ) (is : at ≡ m + 1) (was : TracksTo (λ k i. f k ≡ i) m ats) where
  pub counts_stay : f at ≡ f m + 0 → TracksTo (λ k i. f k ≡ i) at ats
  counts_stay same =
      subst (λ n. TracksTo (λ k i. f k ≡ i) n ats) (sym is)
      (stay (λ k i. f k ≡ i) m ats was (ap f (sym is) ∙ same ∙ (let e = at_last (λ k i. f k ≡ i) m ats was in omega (arith, e))))

  pub counts_push : f at ≡ f m + 1 → TracksTo (λ k i. f k ≡ i) at (ats ++ at ∷ [])
  counts_push more =
      subst (λ n. TracksTo (λ k i. f k ≡ i) n (ats ++ n ∷ [])) (sym is)
      (push (λ k i. f k ≡ i) m ats was (ap f (sym is) ∙ more ∙ (let e = at_last (λ k i. f k ≡ i) m ats was in omega (arith, e))))
