-- Texts in any order, and put in order.
use Rattle.std.proofs.Common.{◌≡◌, ℕ, zero, suc, ◌+◌, ◌<◌, Bool, false, List, [], ◌∷◌, ◌++◌, length, map, get_or, Option, None, Some, Ordering, Less, Equal, Greater, Bor, refl, sym, ap, subst, ◌∙◌, arith}
use Rattle.std.specs.Prelude.{T}
use Rattle.std.specs.List.{list_any, IsDistinct, All, AllByRecursion}
use Rattle.std.specs.List.Sorted.{IsPermutation, IsSortedBy, IsStrictlySortedBy}
use Rattle.std.specs.Ordering.{nat_cmp, is_lt, is_eq, eq_by_cmp, ordering_reverse}
use Rattle.std.specs.Cmp.{IsStrictWeakOrder}
use Rattle.std.proofs.lemmas.List.Sorted.{ranks_by}
use Rattle.std.specs.Cmp.Lexicographic.{slice_cmp, nat_list_cmp_total}
use Rattle.std.specs.Fn.{Mut, Called, ComparesAs}
use Rattle.std.proofs.lemmas.Fn.{always_returns_same}
use Rattle.std.proofs.lemmas.Cmp.{eq_by_cmp_equiv}
use Rattle.std.proofs.lemmas.List.Sorted.{IsPermutation-map, IsPermutation-sym, All-permutation}
use Rattle.std.proofs.lemmas.List.{get_or-map, map-append, length-map}
use Rattle.std.proofs.lemmas.Map.Keys.{IsDistinct-push, IsDistinct-tail, IsDistinct-IsPermutation, sorted_head, sorted_tail, sorted_from_all_adjacent, apart_from_distinct}
use Rattle.std.specs.FinMap as texts
use Rattle.std.specs.FinMap.{is_sorted, find, same_map, get-from_sorted, get-from_entries, from_entries_push, slice_cmp-IsAntisymmetric, nat_cmp-IsAntisymmetric}
use Rattle.std.specs.FinMap.Entries.{below_all}
use Rattle.gw_er7.specs.Message.{numbers, SegmentValue}
use Rattle.gw_er7.specs.Entries.{Entry}
use Rattle.gw_er7.specs.View.{Held, entry_of, entries_of, stored, drafted, AreApart, AreSorted}
use Rattle.gw_er7.proofs.Sorted.{order, both}
use Rattle.gw_er7.proofs.Keys.{tie, tied}

abbrev key : Held → List ℕ
key l = numbers l.place

-- from the clause of the sort
pub sorted_by : {X F : Type 0} (key_of : X → List ℕ) {g : Mut F (Bor X × (Bor X × Unit {0})) Ordering} {f : F} (xs : List X)
    → ((lt : X → X → Bool) → IsStrictWeakOrder lt → ComparesAs g lt f → IsSortedBy lt xs)
    → ((a : Bor X × (Bor X × Unit {0})) (r : Ordering) (f' : F) → Called g f a r f' → (r ≡ order (key_of a.0.now) (key_of a.1.0.now)) × (f' ≡ f)) → IsSortedBy (λ a b. is_lt (order (key_of a) (key_of b))) xs
sorted_by key_of {g = g} {f = f} xs up h =
    up (λ x y. is_lt (order (key_of x) (key_of y))) (ranks_by nat_list_cmp_total key_of)
    (always_returns_same g (λ a r. is_lt r ≡ is_lt (order (key_of a.0.now) (key_of a.1.0.now))) f (λ a r f' k. (ap is_lt (h a r f' k).0, (h a r f' k).1)))

-- ---- texts that are sorted and apart rise

abbrev same : List ℕ → List ℕ → Bool
same = eq_by_cmp (slice_cmp nat_cmp)

flips : (a b : List ℕ) → same a b ≡ same b a
flips a b = (eq_by_cmp_equiv nat_list_cmp_total).symm a b

less_of : (r q : Ordering) → r ≡ ordering_reverse q → is_lt q ≡ false → is_eq r ≡ false → r ≡ Less
less_of Less q e low apart = refl
less_of Equal q e low apart = absurd (let z : ⊥ = cc in z)
less_of Greater Less e low apart = absurd (let z : ⊥ = cc in z)
less_of Greater Equal e low apart = absurd (let z : ⊥ = cc in z)
less_of Greater Greater e low apart = absurd (let z : ⊥ = cc in z)

rising_keys : (xs : List Held) → AreSorted xs → AreApart xs → IsStrictlySortedBy order (map key xs)
rising_keys [] sorted apart = sorted_from_all_adjacent nat_list_cmp_total [] [] (λ k lt. absurd (omega arith))
rising_keys (x ∷ xs) sorted apart =
    sorted_from_all_adjacent nat_list_cmp_total (map key (x ∷ xs)) [] (λ k lt. (
    let short : k + 1 < length (x ∷ xs) = omega (arith, lt, length-map (x ∷ xs) key) in
    let at_k = get_or-map key (x ∷ xs) k x [] (omega (arith, short)) in
    let at_next = get_or-map key (x ∷ xs) (k + 1) x [] short in
    let a = key (get_or (x ∷ xs) k x) in
    let b = key (get_or (x ∷ xs) (k + 1) x) in
    let low : is_lt (order b a) ≡ false = sorted k x (omega arith) short in
    let other : same a b ≡ false = sym (ap (λ (q : List ℕ). same q (get_or (map key (x ∷ xs)) (k + 1) [])) at_k ∙ ap (λ (q : List ℕ). same a q) at_next) ∙ apart_from_distinct same (map key (x ∷ xs)) k (k + 1) [] apart (omega arith) lt in
    ap (λ (q : List ℕ). order q (get_or (map key (x ∷ xs)) (k + 1) [])) at_k ∙ ap (λ (q : List ℕ). order a q) at_next ∙ less_of (order a b) (order b a) (nat_list_cmp_total.antisymm a b) low other))

below : (k : List ℕ) (xs : List Held) → AllByRecursion (λ q. order k q ≡ Less) (map key xs) → T (below_all order k (entries_of xs))
below k [] h = tt
below k (x ∷ xs) h = both _ _ (subst (λ (r : Ordering). T (is_lt r)) (sym h.0) tt) (below k xs h.1)

sorted_entries : (xs : List Held) → IsStrictlySortedBy order (map key xs) → T (is_sorted order (entries_of xs))
sorted_entries [] h = tt
sorted_entries (x ∷ xs) h = both _ _ (below (key x) xs (sorted_head order (key x) (map key xs) h)) (sorted_entries xs (sorted_tail order (key x) (map key xs) h))

-- ---- texts that change places are found again

abbrev IsFoundIn : List Entry → Held → Type 0
IsFoundIn es x = find order (key x) es ≡ Some x.text

self_found : (xs : List Held) → AreApart xs → All (IsFoundIn (entries_of xs)) xs
self_found [] apart k d lt = absurd (omega arith)
self_found (x ∷ xs) apart zero d lt = rw (tie (key x) (key x) refl) refl
self_found (x ∷ xs) apart (suc k) d lt =
    let short : k < length xs = omega arith in
    let at = get_or-map key xs k d [] short in
    let other : same (key x) (key (get_or xs k d)) ≡ false = ap (λ (q : List ℕ). same (key x) q) (sym at) ∙ apart_from_distinct same (map key (x ∷ xs)) 0 (suc k) [] apart (omega arith) (omega (arith, length-map xs key)) in
    let turned : same (key (get_or xs k d)) (key x) ≡ false = flips (key (get_or xs k d)) (key x) ∙ other in
    rw turned (self_found xs (IsDistinct-tail same (key x) (map key xs) apart) k d short)

found_in : (xs : List Held) (es : List Entry) → All (IsFoundIn es) xs → (q t : List ℕ) → find order q (entries_of xs) ≡ Some t → find order q es ≡ Some t
found_in [] es all q t e = absurd (let z : ⊥ = cc in z)
found_in (x ∷ xs) es all q t e =
    let here = tied q (key x) in
    let first = all 0 x (omega arith) in
    let more = found_in xs es (λ k d lt. all (suc k) d (omega arith)) q t in
    grind (arith)

agree : (a b : Option (List ℕ)) → ((t : List ℕ) → a ≡ Some t → b ≡ Some t) → ((t : List ℕ) → b ≡ Some t → a ≡ Some t) → a ≡ b
agree None None to from = refl
agree None (Some t) to from = from t refl
agree (Some t) b to from = sym (to t refl)

same_find : (xs ys : List Held) → IsPermutation xs ys → AreApart xs → AreApart ys → (q : List ℕ) → find order q (entries_of ys) ≡ find order q (entries_of xs)
same_find xs ys moved ax ay q =
    let to : All (IsFoundIn (entries_of xs)) ys = All-permutation (IsFoundIn (entries_of xs)) xs ys moved (self_found xs ax) in
    let from : All (IsFoundIn (entries_of ys)) xs = All-permutation (IsFoundIn (entries_of ys)) ys xs (IsPermutation-sym xs ys moved) (self_found ys ay) in
    agree _ _ (λ t e. found_in ys (entries_of xs) to q t e) (λ t e. found_in xs (entries_of ys) from q t e)

apart_moved : (xs ys : List Held) → IsPermutation xs ys → AreApart xs → AreApart ys
apart_moved xs ys moved apart = IsDistinct-IsPermutation same flips (map key xs) (map key ys) (IsPermutation-map key xs ys moved) apart

pub closed_sorted : (xs ys : List Held) → IsPermutation xs ys → AreSorted ys → AreApart xs → T (is_sorted order (entries_of ys))
closed_sorted xs ys moved sorted apart = sorted_entries ys (rising_keys ys sorted (apart_moved xs ys moved apart))

pub closed_is : (name : List ℕ) (xs ys : List Held) → IsPermutation xs ys → AreSorted ys → AreApart xs → stored name ys ≡ drafted name xs
closed_is name xs ys moved sorted apart =
    let at : texts.from_sorted {R = slice_cmp nat_cmp} (entries_of ys) ≡ texts.from_entries {R = slice_cmp nat_cmp} (entries_of xs) =
    same_map nat_list_cmp_total (slice_cmp-IsAntisymmetric nat_cmp-IsAntisymmetric) _ _ (λ q.
    get-from_sorted (slice_cmp nat_cmp) (entries_of ys) q (closed_sorted xs ys moved sorted apart) ∙ same_find xs ys moved apart (apart_moved xs ys moved apart) q ∙ sym (get-from_entries nat_list_cmp_total (entries_of xs) q)) in
    λ i. record { name = name; at = at i }

-- ---- one text more

none_any : (xs : List Held) (q : List ℕ) → find order q (entries_of xs) ≡ None → list_any (same q) (map key xs) ≡ false
none_any [] q e = refl
none_any (x ∷ xs) q e =
    let more = none_any xs q in
    grind (arith)

free : (xs : List Held) (name q : List ℕ) (s : SegmentValue) → drafted name xs ≡ s → texts.get s.at q ≡ None → find order q (entries_of xs) ≡ None
free xs name q s view none = sym (get-from_entries nat_list_cmp_total (entries_of xs) q) ∙ ap (λ (v : SegmentValue). texts.get v.at q) view ∙ none

pub apart_put : (xs ys : List Held) (l : Held) (name : List ℕ) (s : SegmentValue) → drafted name xs ≡ s → texts.get s.at (key l) ≡ None → AreApart xs → ys ≡ xs ++ l ∷ [] → AreApart ys
apart_put xs ys l name s view none apart e =
    subst (λ (ks : List (List ℕ)). IsDistinct same ks) (sym (ap (map key) e ∙ map-append key xs (l ∷ []))) (IsDistinct-push (eq_by_cmp_equiv nat_list_cmp_total) (map key xs) (key l) apart (none_any xs (key l) (free xs name (key l) s view none)))

pub draft_put : (xs ys : List Held) (l : Held) (name : List ℕ) (s : SegmentValue) → drafted name xs ≡ s → texts.get s.at (key l) ≡ None → ys ≡ xs ++ l ∷ [] → drafted name ys ≡ record s { at = texts.insert s.at (key l) l.text }
draft_put xs ys l name s view none e =
    let at : texts.from_entries {R = slice_cmp nat_cmp} (entries_of ys) ≡ texts.insert {R = slice_cmp nat_cmp} (texts.from_entries (entries_of xs)) (key l) l.text =
    ap (λ (es : List Entry). texts.from_entries {R = slice_cmp nat_cmp} es) (ap entries_of e ∙ map-append entry_of xs (l ∷ [])) ∙ from_entries_push nat_list_cmp_total (slice_cmp-IsAntisymmetric nat_cmp-IsAntisymmetric) (entries_of xs) (key l) l.text (free xs name (key l) s view none) in
    ap (λ (m : texts.FinMap (slice_cmp nat_cmp) (List ℕ)). made name m) at ∙ ap (λ (v : SegmentValue). record v { at = texts.insert v.at (key l) l.text }) view
  where
    made : List ℕ → texts.FinMap (slice_cmp nat_cmp) (List ℕ) → SegmentValue
    made name m = record { name = name; at = m }

pub none_apart : (xs : List Held) → xs ≡ [] → AreApart xs
unfolding IsDistinct
none_apart xs e = subst (λ (ys : List Held). AreApart ys) (sym e) tt
