-- What is found by the numbers of words.
use Rattle.std.proofs.Common.{◌≡◌, ℕ, List, [], ◌∷◌, ◌++◌, Option, Some, None, Bool, true, false, refl, sym, ap, ap₂, ◌∙◌, subst}
use Rattle.std.specs.Prelude.{Err, not, nat_eq, is_some, ◌&&◌, ◌||◌, if◌then◌else◌, bytes_eq}
use Rattle.std.specs.List.{list_any, position_from, position_or_len, AllZip, AllByRecursion}
use Rattle.std.specs.Map.{lookup, keys_of}
use Rattle.std.specs.Global.{Vec}
use Rattle.indexmap.specs.IndexMap.{insert_entry}
use Rattle.indexmap.proofs.MapLemmas.{absent_from_lookup, insert_entry-absent}
use Rattle.std.proofs.lemmas.Map.Made.{is_some-lookup}
use Rattle.std.proofs.lemmas.Slice.Eq.{bytes_eq-Decides}
use Rattle.gw_plan.specs.Senders.{Header, are_of}
use Rattle.gw_plan.specs.Index.{Key, Slot, is_slot, is_key, at, Found, IsFound, IsKnown, number_if_some, number_for}
use Rattle.gw_plan.proofs.Keys.{none_some, word_test, zip_map, zip_push, none_from, some_code, grown, kept_at, put_at}

abbrev pub Numbers : Type 0
Numbers = (ℕ × ℕ) × (ℕ × ℕ)

abbrev pub same_numbers : Numbers → Numbers → Bool
same_numbers x y = (nat_eq x.0.0 y.0.0 && nat_eq x.0.1 y.0.1) && (nat_eq x.1.0 y.1.0 && nat_eq x.1.1 y.1.1)

abbrev AllFound : (codes events words : List (Vec ℕ)) → List Found → List (Slot × ℕ) → Type 0
AllFound codes events words found slots = AllZip (IsFound codes events words) found slots

zip_lookup : {A B : Type 0} (t : A → Bool) (u : B → Bool) (xs : List (A × ℕ)) (ys : List (B × ℕ)) → AllZip (λ x y. (t x.0 ≡ u y.0) × (x.1 ≡ y.1)) xs ys → lookup t xs ≡ lookup u ys
zip_lookup t u [] [] z = refl
zip_lookup t u [] (y ∷ ys) z = absurd z
zip_lookup t u (x ∷ xs) [] z = absurd z
zip_lookup t u (x ∷ xs) (y ∷ ys) z =
    ap (λ b. if b then Some x.1 else lookup t xs) z.0.0 ∙ ap₂ (λ n o. if u y.0 then Some n else o) z.0.1 (zip_lookup t u xs ys z.1)

zip_keys : {A B : Type 0} (t : A → Bool) (u : B → Bool) (xs : List (A × ℕ)) (ys : List (B × ℕ)) → AllZip (λ x y. (t x.0 ≡ u y.0) × (x.1 ≡ y.1)) xs ys → list_any t (keys_of xs) ≡ list_any (λ y. u y.0) ys
zip_keys t u [] [] z = refl
zip_keys t u [] (y ∷ ys) z = absurd z
zip_keys t u (x ∷ xs) [] z = absurd z
zip_keys t u (x ∷ xs) (y ∷ ys) z = ap₂ (λ a b. a || b) z.0.0 (zip_keys t u xs ys z.1)

-- ---- a slot by its numbers

module _ (codes events words : List (Vec ℕ)) (code event : List ℕ) (i j : ℕ) (is_code : at code codes ≡ Some i) (is_event : at event events ≡ Some j) where
  slot_test : (field : ℕ) (word : List ℕ) (k : ℕ) → at word words ≡ Some k → (x : Found) (s : Slot × ℕ) → IsFound codes events words x s
      → (same_numbers ((i, j), (field, k)) x.0 ≡ is_slot code event field word s.0) × (x.1 ≡ s.1)
  slot_test field word k is_word x s h = (
    ap₂ (λ a b. a && b) (ap₂ (λ a b. a && b) (word_test code s.0.code codes i x.0.0.0 is_code h.code) (word_test event s.0.event events j x.0.0.1 is_event h.event))
        (ap₂ (λ a b. a && b) (ap (nat_eq field) h.field) (word_test word s.0.word words k x.0.1.1 is_word h.word)),
    h.number,
  )

  tested : (field : ℕ) (word : List ℕ) (k : ℕ) → at word words ≡ Some k → (found : List Found) (slots : List (Slot × ℕ)) → AllFound codes events words found slots
      → AllZip (λ x s. (same_numbers ((i, j), (field, k)) x.0 ≡ is_slot code event field word s.0) × (x.1 ≡ s.1)) found slots
  tested field word k is_word found slots z = zip_map found slots (slot_test field word k is_word) z

  pub found_slot : (field : ℕ) (word : List ℕ) (k : ℕ) → at word words ≡ Some k → (found : List Found) (slots : List (Slot × ℕ)) → AllFound codes events words found slots
      → lookup (same_numbers ((i, j), (field, k))) found ≡ lookup (is_slot code event field word) slots
  found_slot field word k is_word found slots z = zip_lookup _ (is_slot code event field word) found slots (tested field word k is_word found slots z)

  pub any_found : (field : ℕ) (word : List ℕ) (k : ℕ) → at word words ≡ Some k → (found : List Found) (slots : List (Slot × ℕ)) → AllFound codes events words found slots
      → list_any (same_numbers ((i, j), (field, k))) (keys_of found) ≡ list_any (λ s. is_slot code event field word s.0) slots
  any_found field word k is_word found slots z = zip_keys _ (is_slot code event field word) found slots (tested field word k is_word found slots z)

-- a slot whose word has no number isn't there
pub no_word : (codes events words : List (Vec ℕ)) (code event : List ℕ) (field : ℕ) (word : List ℕ) → at word words ≡ None → (found : List Found) (slots : List (Slot × ℕ)) → AllFound codes events words found slots
    → None ≡ lookup (is_slot code event field word) slots
no_word codes events words code event field word none [] [] z = refl
no_word codes events words code event field word none [] (s ∷ slots) z = absurd z
no_word codes events words code event field word none (x ∷ found) [] z = absurd z
no_word codes events words code event field word none (x ∷ found) (s ∷ slots) z =
    by (bytes_eq code s.0.code && bytes_eq event s.0.event) (nat_eq field s.0.field) (bytes_eq word s.0.word) refl (no_word codes events words code event field word none found slots z.1)
  where
    by : (a b c : Bool) → bytes_eq word s.0.word ≡ c → None ≡ lookup (is_slot code event field word) slots → None ≡ (if a && (b && c) then Some s.1 else lookup (is_slot code event field word) slots)
    by true true true e h = none_some (at word words) none (ap (λ w. at w words) ((bytes_eq-Decides word s.0.word).0 e) ∙ z.0.word)
    by true true false e h = h
    by true false c e h = h
    by false b c e h = h

-- ---- routes by their numbers

all_push : {A : Type 0} (P : A → Type 0) (xs : List A) (x : A) → AllByRecursion P xs → P x → AllByRecursion P (xs ++ x ∷ [])
all_push P [] x all p = (p, tt)
all_push P (y ∷ xs) x all p = (all.0, all_push P xs x all.1 p)

some_none : {A X : Type 0} (o : Option X) → o ≡ None → is_some o ≡ true → A
some_none o none some = absurd (cc)

module _ (codes events : List (Vec ℕ)) (code event : List ℕ) where
  -- no route is for a code or an event without a number
  no_code : (keys : List Key) → at code codes ≡ None → AllByRecursion (IsKnown codes events) keys → list_any (λ k. bytes_eq code k.code) keys ≡ false
  no_code [] none all = refl
  no_code (k ∷ keys) none all = by (bytes_eq code k.code) refl (no_code keys none all.1)
    where
      by : (b : Bool) → bytes_eq code k.code ≡ b → list_any (λ k. bytes_eq code k.code) keys ≡ false → b || list_any (λ k. bytes_eq code k.code) keys ≡ false
      by true e h = some_none (at k.code codes) (sym (ap (λ w. at w codes) ((bytes_eq-Decides code k.code).0 e)) ∙ none) all.0.code
      by false e h = h

  no_event : (header : Header) (keys : List Key) → at event events ≡ None → AllByRecursion (IsKnown codes events) keys → list_any (is_key code event header) keys ≡ false
  no_event header [] none all = refl
  no_event header (k ∷ keys) none all = by (bytes_eq code k.code) (bytes_eq event k.event) (are_of header k.senders) refl (no_event header keys none all.1)
    where
      by : (a b c : Bool) → bytes_eq event k.event ≡ b → list_any (is_key code event header) keys ≡ false → ((a && b) && c) || list_any (is_key code event header) keys ≡ false
      by true true c e h = some_none (at k.event events) (sym (ap (λ w. at w events) ((bytes_eq-Decides event k.event).0 e)) ∙ none) all.0.event
      by true false c e h = h
      by false b c e h = h

  pub finds_no_code : (header : Header) (keys : List Key) → at code codes ≡ None → AllByRecursion (IsKnown codes events) keys → Err 200 ≡ number_for code event header keys
  finds_no_code header keys none all = sym (ap (λ b. if b then number_if_some (position_from (is_key code event header) 0 keys) else Err 200) (no_code keys none all))

  pub finds : (header : Header) (keys : List Key) (i : ℕ) → at code codes ≡ Some i → AllByRecursion (λ c. list_any (λ k. bytes_eq c.items k.code) keys ≡ true) codes
      → number_if_some (position_from (is_key code event header) 0 keys) ≡ number_for code event header keys
  finds header keys i is_code used = sym (ap (λ b. if b then number_if_some (position_from (is_key code event header) 0 keys) else Err 200) (some_code code keys 0 i codes is_code used))

  pub finds_no_event : (header : Header) (keys : List Key) (i : ℕ) → at code codes ≡ Some i → at event events ≡ None → AllByRecursion (λ c. list_any (λ k. bytes_eq c.items k.code) keys ≡ true) codes
      → AllByRecursion (IsKnown codes events) keys → Err 201 ≡ number_for code event header keys
  finds_no_event header keys i is_code none used all =
      sym (ap number_if_some (none_from (is_key code event header) 0 keys (no_event header keys none all))) ∙ finds header keys i is_code used

-- ---- a code and an event that get numbers

still_some : (other : List ℕ) (words : List (Vec ℕ)) (word : Vec ℕ) → is_some (at other words) ≡ true → is_some (at other (grown words word)) ≡ true
still_some other words word some = by (at other words) refl some
  where
    by : (o : Option ℕ) → at other words ≡ o → is_some o ≡ true → is_some (at other (grown words word)) ≡ true
    by None e some = absurd (cc)
    by (Some i) e some = ap is_some (kept_at other words word i e)

pub numbered_put : (words : List (Vec ℕ)) (word : Vec ℕ) (text : List ℕ) (n : ℕ) → word.items ≡ text → n ≡ position_or_len (λ k. bytes_eq word.items k.items) words → at text (grown words word) ≡ Some n
numbered_put words word text n e is = ap (λ w. at w (grown words word)) (sym e) ∙ put_at words word ∙ ap Some (sym is)

module _ (codes events : List (Vec ℕ)) (code event : Vec ℕ) where
  pub still_found : (words : List (Vec ℕ)) (found : List Found) (slots : List (Slot × ℕ)) → AllFound codes events words found slots → AllFound (grown codes code) (grown events event) words found slots
  still_found words found slots z =
      zip_map found slots (λ x s h. record { code = kept_at s.0.code codes code x.0.0.0 h.code; event = kept_at s.0.event events event x.0.0.1 h.event; field = h.field; word = h.word; number = h.number }) z

  still_known : (keys : List Key) → AllByRecursion (IsKnown codes events) keys → AllByRecursion (IsKnown (grown codes code) (grown events event)) keys
  still_known [] all = tt
  still_known (k ∷ keys) all = (record { code = still_some k.code codes code all.0.code; event = still_some k.event events event all.0.event }, still_known keys all.1)

  pub known_put : (keys : List Key) (key : Key) → code.items ≡ key.code → event.items ≡ key.event → AllByRecursion (IsKnown codes events) keys → AllByRecursion (IsKnown (grown codes code) (grown events event)) (keys ++ key ∷ [])
  known_put keys key ec ee all =
      all_push (IsKnown (grown codes code) (grown events event)) keys key (still_known keys all)
      (record {
        code = ap (λ w. is_some (at w (grown codes code))) (sym ec) ∙ ap is_some (put_at codes code);
        event = ap (λ w. is_some (at w (grown events event))) (sym ee) ∙ ap is_some (put_at events event);
      })

-- ---- one slot more

module _ (codes events words : List (Vec ℕ)) (word : Vec ℕ) (code event : List ℕ) (i j k : ℕ) (is_code : at code codes ≡ Some i) (is_event : at event events ≡ Some j)
    (is : k ≡ position_or_len (λ w. bytes_eq word.items w.items) words) (field : ℕ) (found : List Found) (slots : List (Slot × ℕ)) (z : AllFound codes events words found slots) where
  moved : AllFound codes events (grown words word) found slots
  moved = zip_map found slots (λ x s h. record { code = h.code; event = h.event; field = h.field; word = kept_at s.0.word words word x.0.1.1 h.word; number = h.number }) z

  is_word : at word.items (grown words word) ≡ Some k
  is_word = put_at words word ∙ ap Some (sym is)

  pub any_same : list_any (same_numbers ((i, j), (field, k))) (keys_of found) ≡ list_any (λ s. is_slot code event field word.items s.0) slots
  any_same = any_found codes events (grown words word) code event i j is_code is_event field word.items k is_word found slots moved

  pub slot_put : (new : List Found) (number : ℕ) → list_any (same_numbers ((i, j), (field, k))) (keys_of found) ≡ false → new ≡ insert_entry same_numbers found ((i, j), (field, k)) number
      → AllFound codes events (grown words word) new (slots ++ (record { code = code; event = event; field = field; word = word.items }, number) ∷ [])
  slot_put new number none put =
      let absent = absent_from_lookup (same_numbers ((i, j), (field, k))) found (none_of (lookup (same_numbers ((i, j), (field, k))) found) (is_some-lookup (same_numbers ((i, j), (field, k))) found ∙ none)) in
      let last = put ∙ insert_entry-absent same_numbers ((i, j), (field, k)) number found absent in
      subst (λ (l : List Found). AllFound codes events (grown words word) l (slots ++ (record { code = code; event = event; field = field; word = word.items }, number) ∷ [])) (sym last)
      (zip_push (IsFound codes events (grown words word)) found slots (((i, j), (field, k)), number) (record { code = code; event = event; field = field; word = word.items }, number) moved
      (record { code = is_code; event = is_event; field = refl; word = is_word; number = refl }))
    where
      none_of : (o : Option ℕ) → is_some o ≡ false → o ≡ None
      none_of None e = refl
      none_of (Some n) e = absurd (cc)

  module _ (text : List ℕ) (same : word.items ≡ text) (there : Bool) (told : there ≡ is_some (lookup (same_numbers ((i, j), (field, k))) found)) where
    any_there : there ≡ list_any (λ s. is_slot code event field text s.0) slots
    any_there = told ∙ is_some-lookup (same_numbers ((i, j), (field, k))) found ∙ any_same ∙ ap (λ w. list_any (λ s. is_slot code event field w s.0) slots) same

    pub is_there : there ≡ true → false ≡ not (list_any (λ s. is_slot code event field text s.0) slots)
    is_there e = ap not (sym e ∙ any_there)

    pub is_new : there ≡ false → true ≡ not (list_any (λ s. is_slot code event field text s.0) slots)
    is_new e = ap not (sym e ∙ any_there)

    pub put_there : (new : List Found) (number : ℕ) → there ≡ false → new ≡ insert_entry same_numbers found ((i, j), (field, k)) number
        → AllFound codes events (grown words word) new (slots ++ (record { code = code; event = event; field = field; word = text }, number) ∷ [])
    put_there new number e put =
        subst (λ w. AllFound codes events (grown words word) new (slots ++ (record { code = code; event = event; field = field; word = w }, number) ∷ [])) same
        (slot_put new number (sym (is_some-lookup (same_numbers ((i, j), (field, k))) found) ∙ sym told ∙ e) put)
