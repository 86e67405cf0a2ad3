-- Where a number stands among numbers that rise.
use Rattle.std.proofs.Common.{◌≡◌, ◌==◌, position, ℕ, ◌+◌, ◌<◌, ◌≤◌, length, get_or, true, false, List, [], ◌∷◌, ◌++◌, length-append, Some, None, Ok, Err, sym, ap, arith, ⊎_elim, ◌≢◌}
use Rattle.std.proofs.lemmas.Grind.{common_steps}
use Rattle.std.proofs.lemmas.List.Elements.{All-get_or}
use Rattle.std.specs.List.{All}
use Rattle.std.proofs.lemmas.List.Kept.{AllPairs-from_increasing}
use Rattle.std.proofs.lemmas.List.Sums.{position_or_len_is}
use Rattle.std.specs.List.Sorted.{IsStrictlyIncreasing, IsBinarySearchResult}
use Rattle.std.specs.List.{position_or_len}
use Rattle.std.specs.Ordering.{nat_cmp}
use Rattle.std.proofs.lemmas.List.Sorted.{searched}
use Rattle.std.proofs.lemmas.Bool.{cases_lt}

pub differs : (m n : ℕ) → m ≢ n → (m == n) ≡ false
differs m n h = grind (arith, common_steps)

pub equals : (m n : ℕ) → m ≡ n → (m == n) ≡ true
equals m n h = grind (arith, common_steps)

position_is : (xs : List ℕ) (n i : ℕ) → position_or_len (λ m. m == n) xs ≡ i → i < length xs → position (λ m. m == n) xs ≡ Some i
position_is xs n i e lt = grind (arith, common_steps)

position_past : (xs : List ℕ) (n : ℕ) → position_or_len (λ m. m == n) xs ≡ length xs → position (λ m. m == n) xs ≡ None
position_past xs n e = grind (arith, common_steps)

pub place_found : (xs : List ℕ) (n i : ℕ) → IsStrictlyIncreasing xs → i < length xs → get_or xs i 0 ≡ n → position (λ m. m == n) xs ≡ Some i
place_found xs n i rising lt at =
    position_is xs n i
    (position_or_len_is (λ m. m == n) xs i 0 (omega arith)
    (λ k below. let less : get_or xs k 0 < get_or xs i 0 = AllPairs-from_increasing xs rising k i 0 below lt in differs (get_or xs k 0) n (omega arith))
    (λ _. equals (get_or xs i 0) n at))
    lt

pub place_absent : (xs : List ℕ) (n : ℕ) → ((k : ℕ) → k < length xs → get_or xs k 0 ≢ n) → position (λ m. m == n) xs ≡ None
place_absent xs n none =
    position_past xs n
    (position_or_len_is (λ m. m == n) xs (length xs) 0 (omega arith)
    (λ k below. differs (get_or xs k 0) n (none k below))
    (λ lt. absurd (omega arith)))

rising_weakly : (xs : List ℕ) → IsStrictlyIncreasing xs → (i j : ℕ) → i ≤ j → j < length xs → get_or xs i 0 ≤ get_or xs j 0
rising_weakly xs rising i j le lt =
    ⊎_elim
    (λ below. let less : get_or xs i 0 < get_or xs j 0 = AllPairs-from_increasing xs rising i j 0 below lt in omega arith)
    (λ (past : j ≤ i). let same : i ≡ j = omega arith in let goal : get_or xs i 0 ≡ get_or xs j 0 = ap (λ k. get_or xs k 0) same in omega arith)
    (cases_lt i j)

pub place_ok : (xs : List ℕ) (n i : ℕ) → IsStrictlyIncreasing xs → IsBinarySearchResult (λ y. nat_cmp y n) xs (Ok i) → Some i ≡ position (λ m. m == n) xs
place_ok xs n i rising found =
    let hit = searched xs n (Ok i) found (rising_weakly xs rising) in
    sym (place_found xs n i rising hit.0 hit.1)

pub place_err : (xs : List ℕ) (n i : ℕ) → IsStrictlyIncreasing xs → IsBinarySearchResult (λ y. nat_cmp y n) xs (Err i) → None ≡ position (λ m. m == n) xs
place_err xs n i rising found =
    let miss = searched xs n (Err i) found (rising_weakly xs rising) in
    sym (place_absent xs n (λ k lt same.
    ⊎_elim
    (λ below. let less : get_or xs k 0 < n = miss.1 k below in omega arith)
    (λ past. let more : n < get_or xs k 0 = miss.2 k past lt in omega arith)
    (cases_lt k i)))

pub equal_numbers : (m n : ℕ) → (m == n) ≡ true → m ≡ n
equal_numbers m n h = grind (arith, common_steps)

pub rising_differ : (xs : List ℕ) → IsStrictlyIncreasing xs → (i j : ℕ) → i < length xs → j < length xs → i ≢ j → get_or xs i 0 ≢ get_or xs j 0
rising_differ xs rising i j li lj other same =
    ⊎_elim
    (λ below. let less : get_or xs i 0 < get_or xs j 0 = AllPairs-from_increasing xs rising i j 0 below lj in omega arith)
    (λ (past : j ≤ i). let less : get_or xs j 0 < get_or xs i 0 = AllPairs-from_increasing xs rising j i 0 (omega arith) li in omega arith)
    (cases_lt i j)

pub rising_more : (xs : List ℕ) (n : ℕ) → IsStrictlyIncreasing xs → All (λ m. m < n) xs → IsStrictlyIncreasing (xs ++ n ∷ [])
rising_more xs n rising above k lt =
    ⊎_elim
    (λ (below : k + 1 < length xs). let less : get_or xs k 0 < get_or xs (k + 1) 0 = rising k below in grind (arith, common_steps))
    (λ (past : length xs ≤ k + 1). let less : get_or xs k 0 < n = All-get_or (λ m. m < n) xs k 0 (let long : length (xs ++ n ∷ []) ≡ length xs + 1 = length-append xs (n ∷ []) in omega arith) above in grind (arith, common_steps))
    (cases_lt (k + 1) (length xs))
