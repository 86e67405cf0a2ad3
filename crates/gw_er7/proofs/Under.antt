-- The last place that begins with given numbers.
use Rattle.std.proofs.Common.{◌≡◌, ◌≢◌, ℕ, zero, suc, ◌+◌, ◌-◌, ◌<◌, ◌≤◌, true, false, cond, List, [], ◌∷◌, ◌++◌, length, get_or, drop, Option, None, Some, Ordering, Less, Equal, Greater, refl, sym, ap, subst, ◌∙◌, append-nil, append_assoc, arith, inl, inr}
use Rattle.std.specs.Prelude.{unwrap_or, ◌⊎◌}
use Rattle.std.proofs.lemmas.Bool.{true≢false}
use Rattle.std.proofs.lemmas.List.{drop_more, drop_all, length-drop}
use Rattle.std.specs.List.{AllByRecursion}
use Rattle.std.specs.List.Sorted.{IsPartitionPoint, IsPartitionedBy}
use Rattle.std.specs.Ordering.{nat_cmp, is_le, is_gt, is_eq, eq_by_cmp, ordering_then}
use Rattle.std.specs.Cmp.{ranked, Equal-is}
use Rattle.std.specs.Cmp.Lexicographic.{slice_cmp}
use Rattle.std.specs.FinMap as texts
use Rattle.std.specs.FinMap.{find, get-from_sorted}
use Rattle.gw_er7.specs.declared.place.Place.{Place}
use Rattle.gw_er7.specs.Message.{numbers, Texts, IsEntry}
use Rattle.gw_er7.specs.own.Standing.{StandsUnder}
use Rattle.gw_er7.specs.Presence.{IsLast}
use Rattle.gw_er7.specs.View.{Held, entries_of, AreValues, compare_begin, is_within, StandsAt, IsLastUnder}
use Rattle.gw_er7.proofs.Sorted.{order, second, cmp-same}
use Rattle.gw_er7.proofs.Keys.{tie, tied}
use Rattle.gw_er7.proofs.Once.{found_kept}
use Rattle.gw_er7.proofs.Finds.{Sorted, rising_at, partitioned_by}

-- ---- how keys compare with their beginnings

-- what a comparison of numbers tells, for `grind`
pub cmp_tells : (a b : ℕ) → ((nat_cmp a b ≡ Less) × (a < b)) ⊎ (((nat_cmp a b ≡ Equal) × (a ≡ b)) ⊎ ((nat_cmp a b ≡ Greater) × (b < a)))
cmp_tells a b = by (nat_cmp a b) refl
  where
    by : (r : Ordering) → r ≡ nat_cmp a b → ((nat_cmp a b ≡ Less) × (a < b)) ⊎ (((nat_cmp a b ≡ Equal) × (a ≡ b)) ⊎ ((nat_cmp a b ≡ Greater) × (b < a)))
    by Less e = inl (sym e, ranked a b Less e)
    by Equal e = inr (inl (sym e, ranked a b Equal e))
    by Greater e = inr (inr (sym e, ranked a b Greater e))

-- what comes before a key that isn't above the numbers isn't either
within-less : (ps a b : List ℕ) → order a b ≡ Less → is_le (compare_begin b ps) ≡ true → is_le (compare_begin a ps) ≡ true
within-less [] a b lt h = refl
within-less (p ∷ ps) [] b lt h = refl
within-less (p ∷ ps) (x ∷ a) [] lt h = absurd (let z : ⊥ = cc in z)
within-less (p ∷ ps) (x ∷ a) (y ∷ b) lt h =
    let more = within-less ps a b in
    grind (arith, cmp_tells)

-- between a key that begins with the numbers and their end, keys begin with them
begins-above : (ps a b : List ℕ) → is_gt (order a b) ≡ false → compare_begin a ps ≡ Equal → is_le (compare_begin b ps) ≡ true → compare_begin b ps ≡ Equal
begins-above [] a b le e h = refl
begins-above (p ∷ ps) [] b le e h = absurd (let z : ⊥ = cc in z)
begins-above (p ∷ ps) (x ∷ a) [] le e h = absurd (let z : ⊥ = cc in z)
begins-above (p ∷ ps) (x ∷ a) (y ∷ b) le e h =
    let more = begins-above ps a b in
    grind (arith, cmp_tells)

-- ---- a loop over the numbers

compared : (key ps : List ℕ) (i : ℕ) → i < length key → i < length ps → compare_begin (drop i key) (drop i ps) ≡ ordering_then (nat_cmp (get_or key i 0) (get_or ps i 0)) (compare_begin (drop (i + 1) key) (drop (i + 1) ps))
compared key ps i short within = rw (drop_more key i 0 short, drop_more ps i 0 within) refl

pub compared_equal : (key ps : List ℕ) (i : ℕ) → i < length key → i < length ps → get_or key i 0 ≡ get_or ps i 0 → compare_begin (drop i key) (drop i ps) ≡ compare_begin (drop (i + 1) key) (drop (i + 1) ps)
compared_equal key ps i short within e = (let here = compared key ps i short within in grind (arith, cmp_tells))

pub compared_less : (key ps : List ℕ) (i : ℕ) → i < length key → i < length ps → get_or key i 0 < get_or ps i 0 → compare_begin (drop i key) (drop i ps) ≡ Less
compared_less key ps i short within e = (let here = compared key ps i short within in grind (arith, cmp_tells))

pub compared_greater : (key ps : List ℕ) (i : ℕ) → i < length key → i < length ps → get_or ps i 0 < get_or key i 0 → compare_begin (drop i key) (drop i ps) ≡ Greater
compared_greater key ps i short within e = (let here = compared key ps i short within in grind (arith, cmp_tells))

pub compared_short : (key ps : List ℕ) (i : ℕ) → length key ≤ i → i < length ps → compare_begin (drop i key) (drop i ps) ≡ Less
compared_short key ps i over within = rw (drop_all i key over, drop_more ps i 0 within) refl

begins : (key ps : List ℕ) → compare_begin key ps ≡ Equal → key ≡ ps ++ drop (length ps) key
begins key [] e = refl
begins [] (p ∷ ps) e = absurd (let z : ⊥ = cc in z)
begins (k ∷ key) (p ∷ ps) e =
    let same : k ≡ p = grind (arith, cmp_tells) in
    let rest : compare_begin key ps ≡ Equal = grind (arith, cmp_tells) in
    let more = begins key ps rest in
    λ i. same i ∷ more i

begin_same : (ps rest : List ℕ) → compare_begin (ps ++ rest) ps ≡ Equal
begin_same [] rest = refl
begin_same (p ∷ ps) rest = (let more = begin_same ps rest in grind (arith, cmp_tells))

pub not_above : (ps : List ℕ) (a b : ℕ) (key other : List ℕ) → is_gt (order (ps ++ a ∷ key) (ps ++ b ∷ other)) ≡ false → a ≤ b
not_above [] a b key other e = grind (arith, cmp_tells)
not_above (p ∷ ps) a b key other e = not_above ps a b key other (ap is_gt (sym (cmp-same p (ps ++ a ∷ key) (ps ++ b ∷ other))) ∙ e)

-- ---- what is held and the texts that stand

abbrev key : Held → List ℕ
key l = numbers l.place

abbrev texts_of : List Held → Texts
texts_of xs = texts.from_sorted (entries_of xs)

stands-find : (xs : List Held) (k : List ℕ) → Sorted xs → StandsAt (texts_of xs) k → 0 < length (unwrap_or (find order k (entries_of xs)) [])
stands-find xs k sorted h = subst (λ (o : Option (List ℕ)). 0 < length (unwrap_or o [])) (get-from_sorted (slice_cmp nat_cmp) (entries_of xs) k sorted) h

find-stands : (xs : List Held) (k : List ℕ) → Sorted xs → 0 < length (unwrap_or (find order k (entries_of xs)) []) → StandsAt (texts_of xs) k
find-stands xs k sorted h = subst (λ (o : Option (List ℕ)). 0 < length (unwrap_or o [])) (sym (get-from_sorted (slice_cmp nat_cmp) (entries_of xs) k sorted)) h

pub full : (t : List ℕ) → t ≢ [] → 0 < length t
full [] some = absurd (some refl)
full (x ∷ t) some = omega arith

held_found : (xs : List Held) (i : ℕ) (d : Held) → i < length xs → AllByRecursion (IsEntry 1) (entries_of xs) → 0 < length (unwrap_or (find order (key (get_or xs i d)) (entries_of xs)) [])
held_found [] i d lt h = absurd (omega arith)
held_found (x ∷ xs) zero d lt h = rw (tie (key x) (key x) refl) (full x.text h.0.some)
held_found (x ∷ xs) (suc i) d lt h =
    let here = full x.text h.0.some in
    let more = held_found xs i d (omega arith) h.1 in
    grind (arith)

positive : (xs : List Held) (k : List ℕ) → AreValues xs → StandsAt (texts_of xs) k → AllByRecursion (λ n. 0 < n) k
positive xs k is h = by (find order k (entries_of xs)) refl (stands-find xs k is.sorted h)
  where
    by : (o : Option (List ℕ)) → find order k (entries_of xs) ≡ o → 0 < length (unwrap_or o []) → AllByRecursion (λ n. 0 < n) k
    by None e some = absurd (omega arith)
    by (Some t) e some = (found_kept 1 k t (entries_of xs) is.each e).key.positive

-- ---- what a search finds

pub partitioned_within : (ps : List ℕ) (xs : List Held) → Sorted xs → IsPartitionedBy (is_within ps) xs
partitioned_within ps xs h i j d le short is =
    partitioned_by (is_within ps) xs (λ i j d lt short is. within-less ps (key (get_or xs i d)) (key (get_or xs j d)) (rising_at xs i j d h lt short) is) i j d le short is

abbrev pub IsEnd : List ℕ → List Held → ℕ → Type 0
IsEnd ps xs n = IsPartitionPoint (λ y. is_within ps y ≡ true) (λ y. is_within ps y ≡ false) xs n

-- a text is found at the key
abbrev IsFound : List ℕ → List Held → Type 0
IsFound k xs = 0 < length (unwrap_or (find order k (entries_of xs)) [])

-- none where no place begins with the numbers or stands before those that do
none_within : (ps k : List ℕ) (xs : List Held) → ((i : ℕ) (d : Held) → i < length xs → is_within ps (get_or xs i d) ≡ false) → compare_begin k ps ≡ Equal → ¬ (IsFound k xs)
none_within ps k [] none e h = omega arith
none_within ps k (x ∷ xs) none e h =
    elim (eq_by_cmp (slice_cmp nat_cmp) k (key x)) as (λ v. eq_by_cmp (slice_cmp nat_cmp) k (key x) ≡ v → 0 < length (unwrap_or (cond v (Some x.text) (find order k (entries_of xs))) []) → ⊥) [
      | true ↦ λ t _. true≢false (sym (ap (λ (q : List ℕ). is_le (compare_begin q ps)) (sym (tied k (key x) t)) ∙ ap is_le e) ∙ none 0 x (omega arith))
      | false ↦ λ _ h. none_within ps k xs (λ i d lt. none (suc i) d (omega arith)) e h
    ] refl h

pub none_before : (ps : List ℕ) (xs : List Held) (n : ℕ) → AreValues xs → IsEnd ps xs n → n ≡ 0 → IsLastUnder (texts_of xs) ps None
none_before ps xs n is end none k h e = none_within ps k xs (λ i d lt. end.1 i d (omega arith) lt) e (stands-find xs k is.sorted h)

-- what is found at a key that begins with the numbers doesn't stand above the last
not_past : (ps k : List ℕ) (xs : List Held) (n : ℕ) (l : Held) → Sorted xs → n < length xs → IsEnd ps xs (suc n) → l ≡ get_or xs n l → compare_begin k ps ≡ Equal → IsFound k xs → is_gt (order k (key l)) ≡ false
not_past ps k [] n l sorted lt end at e h = absurd (omega arith)
not_past ps k (x ∷ xs) n l sorted lt end at e h =
    elim (eq_by_cmp (slice_cmp nat_cmp) k (key x)) as (λ v. eq_by_cmp (slice_cmp nat_cmp) k (key x) ≡ v → 0 < length (unwrap_or (cond v (Some x.text) (find order k (entries_of xs))) []) → is_gt (order k (key l)) ≡ false) [
      | true ↦ λ t _. ap (λ (q : List ℕ). is_gt (order q (key l))) (tied k (key x) t) ∙ ap (λ (m : Held). is_gt (order (key x) (key m))) at ∙ rises n lt
      | false ↦ λ _ h. later (λ n lt end at. not_past ps k xs n l (second _ _ sorted) lt end at e h) h n lt end at
    ] refl h
  where
    rises : (n : ℕ) → n < length (x ∷ xs) → is_gt (order (key x) (key (get_or (x ∷ xs) n l))) ≡ false
    rises zero lt = ap is_gt ((Equal-is (order (key x) (key x))).0 (tie (key x) (key x) refl))
    rises (suc n) lt = ap is_gt (rising_at (x ∷ xs) 0 (suc n) l sorted (omega arith) lt)

    later : ((n : ℕ) → n < length xs → IsEnd ps xs (suc n) → l ≡ get_or xs n l → is_gt (order k (key l)) ≡ false) → IsFound k xs → (n : ℕ) → n < length (x ∷ xs) → IsEnd ps (x ∷ xs) (suc n) → l ≡ get_or (x ∷ xs) n l → is_gt (order k (key l)) ≡ false
    later more h zero lt end at = absurd (none_within ps k xs (λ i d lt. end.1 (suc i) d (omega arith) (omega arith)) e h)
    later more h (suc n) lt end at = more n (omega arith) ((λ i d low high. end.0 (suc i) d (omega arith) (omega arith)), (λ i d low high. end.1 (suc i) d (omega arith) (omega arith))) at

last_above : (ps : List ℕ) (xs : List Held) (n : ℕ) (l : Held) (k : List ℕ) → AreValues xs → n ≤ length xs → IsEnd ps xs n → 0 < n → l ≡ get_or xs (n - 1) l → StandsAt (texts_of xs) k → compare_begin k ps ≡ Equal → is_gt (order k (key l)) ≡ false
last_above ps xs n l k is bound end some at h e =
    let whole : n ≡ suc (n - 1) = omega arith in
    not_past ps k xs (n - 1) l is.sorted (omega arith) (subst (λ (m : ℕ). IsEnd ps xs m) whole end) at e (stands-find xs k is.sorted h)

pub last_here : (ps : List ℕ) (xs : List Held) (n : ℕ) (l : Held) → AreValues xs → n ≤ length xs → IsEnd ps xs n → 0 < n → l ≡ get_or xs (n - 1) l → compare_begin (key l) ps ≡ Equal → IsLastUnder (texts_of xs) ps (Some l.place)
last_here ps xs n l is bound end some at e = (
  find-stands xs (key l) is.sorted (subst (λ (m : Held). IsFound (key m) xs) (sym at) (held_found xs (n - 1) l (omega arith) is.each)),
  e,
  λ k h b. last_above ps xs n l k is bound end some at h b,
)

pub none_here : (ps : List ℕ) (xs : List Held) (n : ℕ) (l : Held) → AreValues xs → n ≤ length xs → IsEnd ps xs n → 0 < n → l ≡ get_or xs (n - 1) l → is_eq (compare_begin (key l) ps) ≡ false → IsLastUnder (texts_of xs) ps None
none_here ps xs n l is bound end some at e k h b =
    let le = last_above ps xs n l k is bound end some at h b in
    let inside : is_le (compare_begin (key l) ps) ≡ true = ap (is_within ps) at ∙ end.0 (n - 1) l (omega arith) (omega (arith, some)) in
    let same : compare_begin (key l) ps ≡ Equal = begins-above ps k (key l) le b inside in
    true≢false (sym (ap is_eq same) ∙ e)

-- ---- the last number behind others

-- what stands under a key stands at a key that goes on from it
stands-at : (m : Texts) (more : ℕ) (key : List ℕ) → StandsUnder m more key → (rest : List ℕ) × StandsAt m (key ++ rest)
stands-at m zero key h = ([], subst (λ (k : List ℕ). StandsAt m k) (sym (append-nil key)) h)
stands-at m (suc more) key h =
    let later = stands-at m more (key ++ h.0 ∷ []) h.1 in
    (h.0 ∷ later.0, subst (λ (k : List ℕ). StandsAt m k) (append_assoc key (h.0 ∷ []) later.0) later.1)

stands-under : (m : Texts) (more : ℕ) (key rest : List ℕ) → length rest ≡ more → StandsAt m (key ++ rest) → StandsUnder m more key
stands-under m zero key [] e h = subst (λ (k : List ℕ). StandsAt m k) (append-nil key) h
stands-under m zero key (n ∷ rest) e h = absurd (omega arith)
stands-under m (suc more) key [] e h = absurd (omega arith)
stands-under m (suc more) key (n ∷ rest) e h =
    (n, stands-under m more (key ++ n ∷ []) rest (omega arith) (subst (λ (k : List ℕ). StandsAt m k) (sym (append_assoc key (n ∷ []) rest)) h))

positive_behind : (ps : List ℕ) (n : ℕ) (rest : List ℕ) → AllByRecursion (λ k. 0 < k) (ps ++ n ∷ rest) → 0 < n
positive_behind [] n rest h = h.0
positive_behind (p ∷ ps) n rest h = positive_behind ps n rest h.1

module _ (xs : List Held) (is : AreValues xs) (ps : List ℕ) (short : length ps < 4) where
  abbrev Stands : ℕ → Type 0
  Stands n = StandsUnder (texts_of xs) (3 - length ps) (ps ++ n ∷ [])

  stands : (n : ℕ) → Stands n → (rest : List ℕ) × StandsAt (texts_of xs) (ps ++ n ∷ rest)
  stands n h =
      let at = stands-at (texts_of xs) (3 - length ps) (ps ++ n ∷ []) h in
      (at.0, subst (λ (k : List ℕ). StandsAt (texts_of xs) k) (append_assoc ps (n ∷ []) at.0) at.1)

  pub last_none : IsLastUnder (texts_of xs) ps None → IsLast Stands 0
  last_none none = record { there = λ lt. absurd (omega arith); within = λ n h. (let at = stands n h in absurd (none (ps ++ n ∷ at.0) at.1 (begin_same ps (n ∷ at.0)))) }

  pub last_some : (p : Place) → IsLastUnder (texts_of xs) ps (Some p) → IsLast Stands (get_or (numbers p) (length ps) 0)
  last_some p last =
      let n = get_or (numbers p) (length ps) 0 in
      let later = drop (length ps + 1) (numbers p) in
      let four : length (numbers p) ≡ 4 = refl in
      let rest : drop (length ps) (numbers p) ≡ n ∷ later = drop_more (numbers p) (length ps) 0 (omega (arith, short, four)) in
      let key_is : numbers p ≡ ps ++ n ∷ later = begins (numbers p) ps last.1 ∙ ap (λ (k : List ℕ). ps ++ k) rest in
      let long : length later ≡ 3 - length ps = omega (arith, short, four, length-drop (length ps + 1) (numbers p)) in
      record {
        there = λ lt. stands-under (texts_of xs) (3 - length ps) (ps ++ n ∷ []) later long (subst (λ (k : List ℕ). StandsAt (texts_of xs) k) (key_is ∙ sym (append_assoc ps (n ∷ []) later)) last.0);
        within = λ k h. (
            let at = stands k h in
            let le = last.2 (ps ++ k ∷ at.0) at.1 (begin_same ps (k ∷ at.0)) in
            (positive_behind ps k at.0 (positive xs (ps ++ k ∷ at.0) is at.1), not_above ps k n at.0 later (subst (λ (q : List ℕ). is_gt (order (ps ++ k ∷ at.0) q) ≡ false) key_is le)));
      }
