-- Look-ups among texts in order.
use Rattle.std.proofs.Common.{◌≡◌, ◌≢◌, ℕ, zero, suc, ◌+◌, ◌<◌, ◌≤◌, Bool, true, false, cond, List, [], ◌∷◌, length, get_or, drop, Option, None, Some, Ordering, Less, Equal, Greater, refl, sym, ap, subst, ◌∙◌, arith, inl, inr}
use Rattle.std.specs.Prelude.{◌==◌, ◌&&◌, T, unwrap_or}
use Rattle.std.proofs.lemmas.Bool.{cases_lt, true≢false}
use Rattle.std.proofs.lemmas.Bool.Decides.{nat_tests}
use Rattle.std.proofs.lemmas.List.{drop_more, drop_all}
use Rattle.std.specs.List.{AllWithin}
use Rattle.std.specs.List.Sorted.{IsPartitionPoint, IsPartitionedBy}
use Rattle.std.specs.Ordering.{nat_cmp, is_lt, is_eq, eq_by_cmp, ordering_reverse}
use Rattle.std.specs.Cmp.Lexicographic.{slice_cmp, nat_list_cmp_total}
use Rattle.std.specs.FinMap.{is_sorted, find}
use Rattle.std.specs.FinMap.Entries.{below_all}
use Rattle.gw_er7.specs.declared.place.Place.{Place}
use Rattle.gw_er7.specs.Message.{numbers}
use Rattle.gw_er7.specs.View.{Held, entries_of, is_below}
use Rattle.gw_er7.proofs.Sorted.{order, first, second}
use Rattle.gw_er7.proofs.Keys.{tie, no_tie}

pub less : (r : Ordering) → T (is_lt r) → r ≡ Less
less Less h = refl
less Equal h = absurd h
less Greater h = absurd h

abbrev key : Held → List ℕ
key l = numbers l.place

abbrev pub Sorted : List Held → Type 0
Sorted xs = T (is_sorted order (entries_of xs))

below_at : (k : List ℕ) (xs : List Held) (j : ℕ) (d : Held) → T (below_all order k (entries_of xs)) → j < length xs → order k (key (get_or xs j d)) ≡ Less
below_at k [] j d h lt = absurd (omega arith)
below_at k (x ∷ xs) zero d h lt = less _ (first _ _ h)
below_at k (x ∷ xs) (suc j) d h lt = below_at k xs j d (second _ _ h) (omega arith)

pub rising_at : (xs : List Held) (i j : ℕ) (d : Held) → Sorted xs → i < j → j < length xs → order (key (get_or xs i d)) (key (get_or xs j d)) ≡ Less
rising_at [] i j d h lt short = absurd (omega arith)
rising_at (x ∷ xs) i zero d h lt short = absurd (omega arith)
rising_at (x ∷ xs) zero (suc j) d h lt short = below_at (key x) xs j d (first _ _ h) (omega arith)
rising_at (x ∷ xs) (suc i) (suc j) d h lt short = rising_at xs i j d (second _ _ h) (omega arith) (omega arith)

pub lt_true : (r : Ordering) → is_lt r ≡ true → r ≡ Less
lt_true Less h = refl
lt_true Equal h = absurd (let z : ⊥ = cc in z)
lt_true Greater h = absurd (let z : ⊥ = cc in z)

pub partitioned_by : (test : Held → Bool) (xs : List Held) → ((i j : ℕ) (d : Held) → i < j → j < length xs → test (get_or xs j d) ≡ true → test (get_or xs i d) ≡ true) → IsPartitionedBy test xs
partitioned_by test xs falls i j d le short is =
    elim (cases_lt i j) as (λ _. test (get_or xs i d) ≡ true) [
      | inl lt ↦ falls i j d lt short is
      | inr ge ↦ (let same : j ≡ i = omega (arith, le, ge) in subst (λ (k : ℕ). test (get_or xs k d) ≡ true) same is)
    ]

pub partitioned : (q : List ℕ) (xs : List Held) → Sorted xs → IsPartitionedBy (is_below q) xs
partitioned q xs h i j d le short is =
    partitioned_by (is_below q) xs (λ i j d lt short is. ap is_lt (nat_list_cmp_total.trans (key (get_or xs i d)) (key (get_or xs j d)) q (rising_at xs i j d h lt short) (lt_true _ is))) i j d le short is

here : (xs : List Held) (n : ℕ) (l d : Held) → n < length xs → l ≡ get_or xs n l → get_or xs n d ≡ l
here [] n l d lt is = absurd (omega arith)
here (x ∷ xs) zero l d lt is = sym is
here (x ∷ xs) (suc n) l d lt is = here xs n l d (omega arith) is

-- where a test divides the texts, and one passes, so do those before it; where one doesn't, nor do those behind it
all_before : (test : Held → Bool) (xs : List Held) (n : ℕ) (l : Held) → IsPartitionedBy test xs → n < length xs → l ≡ get_or xs n l → test l ≡ true → AllWithin (λ y. test y ≡ true) xs 0 (n + 1)
all_before test xs n l h lt is passes = λ k d low high. h k n d (omega arith) lt (ap test (here xs n l d lt is) ∙ passes)

pub none_from : (test : Held → Bool) (xs : List Held) (n : ℕ) (l : Held) → IsPartitionedBy test xs → n < length xs → l ≡ get_or xs n l → test l ≡ false → AllWithin (λ y. test y ≡ false) xs n (length xs)
none_from test xs n l h lt is fails = λ k d low high. by k d low high (test (get_or xs k d)) refl
  where
    by : (k : ℕ) (d : Held) → n ≤ k → k < length xs → (b : Bool) → test (get_or xs k d) ≡ b → test (get_or xs k d) ≡ false
    by k d low high false e = e
    by k d low high true e =
        absurd (true≢false (sym (h n k d low high e) ∙ ap test (here xs n l d lt is) ∙ fails))

-- how far a search among these texts has come
pub record IsBetween (test : Held → Bool) (xs : List Held) (low high : ℕ) : Type 0 where
  pub order : low ≤ high
  pub bound : high ≤ length xs
  pub below : AllWithin (λ y. test y ≡ true) xs 0 low
  pub above : AllWithin (λ y. test y ≡ false) xs high (length xs)

pub between_up : (test : Held → Bool) (xs : List Held) (low high n : ℕ) (l : Held) → IsPartitionedBy test xs → IsBetween test xs low high → n < high → l ≡ get_or xs n l → test l ≡ true → IsBetween test xs (n + 1) high
between_up test xs low high n l h is lt at passes = record { order = omega arith; bound = is.bound; below = all_before test xs n l h (omega (arith, lt, is.bound)) at passes; above = is.above }

pub between_down : (test : Held → Bool) (xs : List Held) (low high n : ℕ) (l : Held) → IsPartitionedBy test xs → IsBetween test xs low high → low ≤ n → n < high → l ≡ get_or xs n l → test l ≡ false → IsBetween test xs low n
between_down test xs low high n l h is le lt at fails = record { order = le; bound = omega (arith, lt, is.bound); below = is.below; above = none_from test xs n l h (omega (arith, lt, is.bound)) at fails }

-- ---- what a look-up finds

apart_less : (a b : List ℕ) → order a b ≡ Less → b ≢ a
apart_less a b e same =
    let apart : eq_by_cmp (slice_cmp nat_cmp) a b ≡ false = ap is_eq e in
    true≢false (sym (tie a b (sym same)) ∙ apart)

pub look_less : (q : List ℕ) (x : Held) (xs : List Held) → order (key x) q ≡ Less → find order q (entries_of (x ∷ xs)) ≡ find order q (entries_of xs)
look_less q x xs e = rw (no_tie q (key x) (apart_less (key x) q e)) refl

look_above : (q k : List ℕ) (xs : List Held) → order q k ≡ Less → T (below_all order k (entries_of xs)) → find order q (entries_of xs) ≡ None
look_above q k [] e h = refl
look_above q k (x ∷ xs) e h =
    let far = nat_list_cmp_total.trans q k (key x) e (less _ (first _ _ h)) in
    rw (no_tie q (key x) (λ same. apart_less q (key x) far (sym same))) (look_above q k xs e (second _ _ h))

-- the text at the place where the search ends, or none
abbrev pub hit : List ℕ → List Held → Option (List ℕ)
hit q [] = None
hit q (x ∷ xs) = cond (eq_by_cmp (slice_cmp nat_cmp) q (key x)) (Some x.text) None

abbrev IsStartOf : List ℕ → List Held → ℕ → Type 0
IsStartOf q xs n = IsPartitionPoint (λ y. is_below q y ≡ true) (λ y. is_below q y ≡ false) xs n

found_at : (q : List ℕ) (xs : List Held) (n : ℕ) → Sorted xs → n ≤ length xs → IsStartOf q xs n → find order q (entries_of xs) ≡ hit q (drop n xs)
found_at q [] zero h le point = refl
found_at q [] (suc n) h le point = absurd (omega arith)
found_at q (x ∷ xs) (suc n) h le point =
    let later : IsStartOf q xs n = ((λ k d low high. point.0 (suc k) d (omega arith) (omega arith)), (λ k d low high. point.1 (suc k) d (omega arith) (omega arith))) in
    look_less q x xs (lt_true _ (point.0 0 x (omega arith) (omega arith))) ∙ found_at q xs n (second _ _ h) (omega arith) later
found_at q (x ∷ xs) zero h le point =
    elim (order (key x) q) as (λ r. order (key x) q ≡ r → is_lt r ≡ false → find order q (entries_of (x ∷ xs)) ≡ hit q (x ∷ xs)) [
      | Less ↦ λ _ e. absurd (true≢false e)
      | Equal ↦ λ e _. (let same : eq_by_cmp (slice_cmp nat_cmp) q (key x) ≡ true = ap is_eq (nat_list_cmp_total.antisymm q (key x) ∙ ap ordering_reverse e) in rw same refl)
      | Greater ↦ λ e _. ap (λ (o : Option (List ℕ)). cond (eq_by_cmp (slice_cmp nat_cmp) q (key x)) (Some x.text) o) (look_above q (key x) xs (nat_list_cmp_total.antisymm q (key x) ∙ ap ordering_reverse e) (first _ _ h))
    ] refl (point.1 0 x (omega arith) (omega arith))

found_here : (q : List ℕ) (xs : List Held) (n : ℕ) (l : Held) → Sorted xs → IsStartOf q xs n → n < length xs → l ≡ get_or xs n l → find order q (entries_of xs) ≡ hit q (l ∷ drop (n + 1) xs)
found_here q xs n l h point lt is = found_at q xs n h (omega (arith, lt)) point ∙ ap (hit q) (drop_more xs n l lt ∙ ap (λ (x : Held). x ∷ drop (n + 1) xs) (sym is))

-- the test that the derived `==` makes
abbrev pub same : Place → Place → Bool
same p q = (p.field == q.field) && ((p.rep == q.rep) && ((p.comp == q.comp) && (p.sub == q.sub)))

numbers-same : (p q : Place) → same p q ≡ true → numbers p ≡ numbers q
numbers-same p q e = grind (arith, nat_tests)

same-numbers : (p q : Place) → numbers p ≡ numbers q → same p q ≡ true
same-numbers p q e = grind (arith, nat_tests)

pub text_here : (p : Place) (xs : List Held) (n : ℕ) (l : Held) → Sorted xs → IsStartOf (numbers p) xs n → n < length xs → l ≡ get_or xs n l → same l.place p ≡ true → unwrap_or (find order (numbers p) (entries_of xs)) [] ≡ l.text
text_here p xs n l h point lt is at =
    let tied : eq_by_cmp (slice_cmp nat_cmp) (numbers p) (key l) ≡ true = tie (numbers p) (key l) (sym (numbers-same l.place p at)) in
    ap (λ (o : Option (List ℕ)). unwrap_or o []) (found_here (numbers p) xs n l h point lt is ∙ ap (λ (b : Bool). cond b (Some l.text) None) tied)

pub text_none : (p : Place) (xs : List Held) (n : ℕ) (l : Held) → Sorted xs → IsStartOf (numbers p) xs n → n < length xs → l ≡ get_or xs n l → same l.place p ≡ false → unwrap_or (find order (numbers p) (entries_of xs)) [] ≡ []
text_none p xs n l h point lt is at =
    let apart : eq_by_cmp (slice_cmp nat_cmp) (numbers p) (key l) ≡ false = no_tie (numbers p) (key l) (λ s. true≢false (sym (same-numbers l.place p (sym s)) ∙ at)) in
    ap (λ (o : Option (List ℕ)). unwrap_or o []) (found_here (numbers p) xs n l h point lt is ∙ ap (λ (b : Bool). cond b (Some l.text) None) apart)

pub text_past : (p : Place) (xs : List Held) (n : ℕ) → Sorted xs → n ≤ length xs → IsStartOf (numbers p) xs n → length xs ≤ n → unwrap_or (find order (numbers p) (entries_of xs)) [] ≡ []
text_past p xs n h bound point le = ap (λ (o : Option (List ℕ)). unwrap_or o []) (found_at (numbers p) xs n h bound point ∙ ap (hit (numbers p)) (drop_all n xs le))
