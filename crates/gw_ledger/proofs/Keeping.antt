-- What is due by a part of a log, and what is on the disk of a journal.
use Rattle.std.proofs.Common.{◌≡◌, ◌⊎◌, inl, inr, ℕ, zero, suc, ◌+◌, ◌≤◌, ◌<◌, Bool, true, false, cond, nat_eq, List, [], ◌∷◌, ◌++◌, length, take, drop, Some, slice_get, refl, ap, sym, ◌∙◌, subst, arith}
use Rattle.std.proofs.lemmas.List.{append-nil, length-map, map-append}
use mathlib.Core.List.{IsPrefix}
use Rattle.gw_due.specs.Events.{Event, Planned, Accepted, Again, Passed, Named, Margin, Retired}
use Rattle.gw_due.specs.Due.{Name, due, due_by, due_from, is_among, passed}
use Rattle.gw_due.specs.Spelling.{Entry, spelled}
use Rattle.gw_due.specs.State.{State}
use Rattle.gw_due.proofs.Growing.{passed_append}
use Rattle.gw_journal.specs.declared.event.Event as happened
use Rattle.gw_journal.specs.Logs.{AreFaithful, log_in}
use Rattle.gw_journal.proofs.Fronts.{prefix_length, prefix_whole}
use Rattle.gw_journal.proofs.Logging.{log_later}
use Rattle.gw_ledger.specs.Ledgers.{IsInState, Spells, events_of}
use Rattle.gw_ledger.specs.Finding.{InJournal}
use Rattle.gw_ledger.specs.Backlogs.{Between, HasPassed, HasPassedWithin, IsFirstLeft, OnDisk}
use Rattle.gw_ledger.proofs.Ledging.{faithful_part, front_spelled}

-- ---- places are in order, and each is due once

by_choice : (b : Bool) (at : ℕ) → (cond b (at ∷ []) [] ≡ []) ⊎ (cond b (at ∷ []) [] ≡ at ∷ [])
by_choice true at = inr refl
by_choice false at = inl refl

due_or_not : (r at : ℕ) (e : Event) → (due_by r at e ≡ []) ⊎ (due_by r at e ≡ at ∷ [])
due_or_not r at (Accepted number to bytes) = by_choice (is_among r to) at
due_or_not r at (Again receiver place) = by_choice (nat_eq receiver r) at
due_or_not r at (Planned text) = inl refl
due_or_not r at (Passed receiver place how) = inl refl
due_or_not r at (Named receiver name address) = inl refl
due_or_not r at (Margin number) = inl refl
due_or_not r at (Retired segment) = inl refl

-- of a list behind a place, or behind none
get_here : (here at : List ℕ) (k : ℕ) (rest : List ℕ) (place : ℕ) → here ≡ at → slice_get (here ++ rest) k ≡ Some place → slice_get (at ++ rest) k ≡ Some place
get_here here at k rest place same is = ap (λ l. slice_get (l ++ rest) k) (sym same) ∙ is

pub not_before : (r at : ℕ) (log : List Event) (k place : ℕ) → slice_get (due_from r at log) k ≡ Some place → at ≤ place
not_before r at [] k place is = absurd cc
not_before r at (e ∷ log) k place is = by (due_or_not r at e) k is (not_before r (at + 1) log) where
  by : (due_by r at e ≡ []) ⊎ (due_by r at e ≡ at ∷ []) → (k : ℕ) → slice_get (due_by r at e ++ due_from r (at + 1) log) k ≡ Some place
      → ((k place : ℕ) → slice_get (due_from r (at + 1) log) k ≡ Some place → at + 1 ≤ place) → at ≤ place
  by (inl none) k is more = let behind = more k place (get_here (due_by r at e) [] k (due_from r (at + 1) log) place none is) in omega (arith, behind)
  by (inr here) zero is more = let same : at ≡ place = cc (get_here (due_by r at e) (at ∷ []) 0 (due_from r (at + 1) log) place here is) in omega (arith, same)
  by (inr here) (suc k) is more = let behind = more k place (get_here (due_by r at e) (at ∷ []) (suc k) (due_from r (at + 1) log) place here is) in omega (arith, behind)

pub due_once : (r at : ℕ) (log : List Event) (i j place : ℕ) → slice_get (due_from r at log) i ≡ Some place → slice_get (due_from r at log) j ≡ Some place → i ≡ j
due_once r at [] i j place is also = absurd cc
due_once r at (e ∷ log) i j place is also = by (due_or_not r at e) i j is also (due_once r (at + 1) log) where
  rest : List ℕ
  rest = due_from r (at + 1) log

  first_only : (k : ℕ) → slice_get rest k ≡ Some place → at ≡ place → ⊥
  first_only k is same = let behind = not_before r (at + 1) log k place is in omega (arith, behind, same)

  by : (due_by r at e ≡ []) ⊎ (due_by r at e ≡ at ∷ []) → (i j : ℕ) → slice_get (due_by r at e ++ rest) i ≡ Some place
      → slice_get (due_by r at e ++ rest) j ≡ Some place
      → ((i j place : ℕ) → slice_get rest i ≡ Some place → slice_get rest j ≡ Some place → i ≡ j) → i ≡ j
  by (inl none) i j is also more =
      more i j place (get_here (due_by r at e) [] i rest place none is) (get_here (due_by r at e) [] j rest place none also)
  by (inr here) zero zero is also more = refl
  by (inr here) zero (suc j) is also more =
      absurd (first_only j (get_here (due_by r at e) (at ∷ []) (suc j) rest place here also) (cc (get_here (due_by r at e) (at ∷ []) 0 rest place here is)))
  by (inr here) (suc i) zero is also more =
      absurd (first_only i (get_here (due_by r at e) (at ∷ []) (suc i) rest place here is) (cc (get_here (due_by r at e) (at ∷ []) 0 rest place here also)))
  by (inr here) (suc i) (suc j) is also more =
      ap suc (more i j place (get_here (due_by r at e) (at ∷ []) (suc i) rest place here is) (get_here (due_by r at e) (at ∷ []) (suc j) rest place here also))

-- what is due at a place is due by the records up to there
pub due_within : (r at n : ℕ) (log : List Event) (k place : ℕ) → slice_get (due_from r at log) k ≡ Some place → place < at + n
    → slice_get (due_from r at (take n log)) k ≡ Some place
due_within r at n [] k place is less = absurd cc
due_within r at zero (e ∷ log) k place is less = let behind = not_before r at (e ∷ log) k place is in absurd (omega (arith, behind, less))
due_within r at (suc n) (e ∷ log) k place is less = by (due_or_not r at e) k is (due_within r (at + 1) n log) where
  part : List ℕ
  part = due_from r (at + 1) (take n log)

  by : (due_by r at e ≡ []) ⊎ (due_by r at e ≡ at ∷ []) → (k : ℕ) → slice_get (due_by r at e ++ due_from r (at + 1) log) k ≡ Some place
      → ((k place : ℕ) → slice_get (due_from r (at + 1) log) k ≡ Some place → place < (at + 1) + n → slice_get part k ≡ Some place)
      → slice_get (due_by r at e ++ part) k ≡ Some place
  by (inl none) k is more =
      get_here [] (due_by r at e) k part place (sym none)
      (more k place (get_here (due_by r at e) [] k (due_from r (at + 1) log) place none is) (omega (arith, less)))
  by (inr here) zero is more =
      get_here (at ∷ []) (due_by r at e) 0 part place (sym here) (get_here (due_by r at e) (at ∷ []) 0 (due_from r (at + 1) log) place here is)
  by (inr here) (suc k) is more =
      get_here (at ∷ []) (due_by r at e) (suc k) part place (sym here)
      (more k place (get_here (due_by r at e) (at ∷ []) (suc k) (due_from r (at + 1) log) place here is) (omega (arith, less)))

-- ---- parts of lists

take_all : {A : Type 0} (xs : List A) → take (length xs) xs ≡ xs
take_all [] = refl
take_all (x ∷ xs) = ap (λ l. x ∷ l) (take_all xs)

take_some : {A : Type 0} (n : ℕ) (xs : List A) → IsPrefix (take n xs) xs
take_some zero [] = ([], refl)
take_some zero (x ∷ xs) = (x ∷ xs, refl)
take_some (suc n) [] = ([], refl)
take_some (suc n) (x ∷ xs) = let rest = take_some n xs in (rest.0, ap (λ l. x ∷ l) rest.1)

pub take_longer : {A : Type 0} (n m : ℕ) (xs ys : List A) → n ≤ m → IsPrefix xs ys → IsPrefix (take n xs) (take m ys)
take_longer zero m [] ys le p = (take m ys, refl)
take_longer zero m (x ∷ xs) ys le p = (take m ys, refl)
take_longer (suc n) zero xs ys le p = absurd (omega arith)
take_longer (suc n) (suc m) [] ys le p = (take (suc m) ys, refl)
take_longer (suc n) (suc m) (x ∷ xs) [] le p = absurd (cc (p.1))
take_longer (suc n) (suc m) (x ∷ xs) (y ∷ ys) le p =
    let same : x ≡ y = cc (p.1) in
    let rest = take_longer n m xs ys (omega arith) (p.0, cc (p.1)) in
    (rest.0, cc (same, rest.1))

pub get_drop : (n : ℕ) (xs : List ℕ) → slice_get (drop n xs) 0 ≡ slice_get xs n
get_drop zero xs = refl
get_drop (suc n) [] = refl
get_drop (suc n) (x ∷ xs) = get_drop n xs

pub passed_begins : (r : ℕ) (part whole : List Event) → IsPrefix part whole → IsPrefix (passed r part) (passed r whole)
passed_begins r part whole p = (passed r p.0, sym (passed_append r part p.0) ∙ ap (passed r) p.1)

-- what lies between two that are the same is the same
between : (xs ys zs : List ℕ) → xs ≡ zs → IsPrefix xs ys → IsPrefix ys zs → ys ≡ zs
between xs ys zs same p q =
    let less = prefix_length xs ys p in
    prefix_whole ys zs q (let size = ap length same in omega (arith, less, size))

-- ---- what was passed within the first records

pub within_more : (r count n : ℕ) (log : List Event) → count ≤ n → HasPassedWithin r count log → HasPassedWithin r n log
within_more r count n log le is =
    between (passed r (take count log)) (passed r (take n log)) (passed r log) is
    (passed_begins r (take count log) (take n log) (take_longer count n log log le ([], append-nil log)))
    (passed_begins r (take n log) log (take_some n log))

-- where nothing was passed since
within_later : (r count : ℕ) (log more : List Event) → passed r (log ++ more) ≡ passed r log → HasPassedWithin r count log → HasPassedWithin r count (log ++ more)
within_later r count log more none is =
    between (passed r (take count log)) (passed r (take count (log ++ more))) (passed r (log ++ more)) (is ∙ sym none)
    (passed_begins r (take count log) (take count (log ++ more)) (take_longer count count log (log ++ more) (omega arith) (more, refl)))
    (passed_begins r (take count (log ++ more)) (log ++ more) (take_some count (log ++ more)))

-- the first that is left is that of the first records too, where these have it, and all that was passed
first_within : (r place n : ℕ) (log : List Event) → IsFirstLeft r place log → HasPassedWithin r n log → place < n → IsFirstLeft r place (take n log)
first_within r place n log first same less =
    get_drop (length (passed r (take n log))) (due r (take n log)) ∙ ap (λ l. slice_get (due r (take n log)) (length l)) same
    ∙ due_within r 0 n log (length (passed r log)) place (sym (get_drop (length (passed r log)) (due r log)) ∙ first) (omega (arith, less))

-- ---- in a journal

pub within_state : (Routes : (names : List Name) (plan to bytes : List ℕ) → Type 0) (before : List (List ℕ)) (history : List happened.Event) (s : State) (n : ℕ)
    → IsInState Routes (AreFaithful before history) (log_in before history).records s → InJournal (HasPassedWithin n s.next) before history
within_state Routes before history s n is faithful entries spells =
    let size : s.next ≡ length (events_of entries) =
    is.counted ∙ ap length spells.are ∙ length-map entries spelled ∙ sym (length-map entries (λ (e : Entry). e.event)) in
    ap (λ k. passed n (take k (events_of entries))) size ∙ ap (passed n) (take_all (events_of entries))

pub within_synced : (before : List (List ℕ)) (r count synced : ℕ) (history : List happened.Event) → count ≤ synced
    → InJournal (HasPassedWithin r count) before history → InJournal (HasPassedWithin r synced) before history
within_synced before r count synced history le is faithful entries spells = within_more r count synced (events_of entries) le (is faithful entries spells)

pub within_now : (before : List (List ℕ)) (r count : ℕ) (old new : List happened.Event) → IsPrefix old new → Between (HasPassed r []) before old new
    → InJournal (HasPassedWithin r count) before old → InJournal (HasPassedWithin r count) before new
within_now before r count old new p none is faithful entries spells =
    let later = log_later before old new p in
    let cut = front_spelled (log_in before old).records later.more entries (subst (λ rs. Spells rs entries) later.records spells) in
    let whole : events_of entries ≡ events_of cut.front ++ events_of cut.rest = ap events_of cut.is ∙ map-append (λ (e : Entry). e.event) cut.front cut.rest in
    let same : passed r (events_of cut.front ++ events_of cut.rest) ≡ passed r (events_of cut.front) =
    ap (passed r) (sym whole) ∙ none faithful cut.front entries cut.spells spells ∙ append-nil (passed r (events_of cut.front)) in
    subst (HasPassedWithin r count) (sym whole)
    (within_later r count (events_of cut.front) (events_of cut.rest) same (is (faithful_part before old new p faithful) cut.front cut.spells))

pub first_stored : (before : List (List ℕ)) (r place : ℕ) (history : List happened.Event) → InJournal (IsFirstLeft r place) before history
    → InJournal (HasPassedWithin r (log_in before history).synced) before history → place < (log_in before history).synced
    → OnDisk (IsFirstLeft r place) before history
first_stored before r place history first within less faithful entries spells =
    first_within r place (log_in before history).synced (events_of entries) (first faithful entries spells) (within faithful entries spells) less
