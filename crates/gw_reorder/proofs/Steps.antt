-- One more call on a desk: its due numbers, what was given out and what was kept grow by that call.
use Rattle.std.proofs.Common.{◌≡◌, ◌≢◌, ◌==◌, ◌&&◌, ℕ, ◌+◌, ◌-◌, ◌<◌, ◌≤◌, Bool, true, false, List, [], ◌∷◌, ◌++◌, Option, None, Some, position, slice_get, slice_set, get_or, is_some, option_map, length, take, if◌then◌else◌, refl, sym, ap, ◌∙◌, subst, arith, ◌⊎◌, inl, inr, length-append, length-drop, length-set}
use Rattle.std.specs.Option.{option_to_list}
use Rattle.std.specs.List.Sorted.{IsStrictlyIncreasing}
use Rattle.std.proofs.lemmas.Grind.{common_steps, get_or-set_at}
use Rattle.std.proofs.lemmas.List.Elements.{All-nil, All-push, All-weaker}
use Rattle.std.proofs.lemmas.List.Quantifiers.{position-Some}
use Rattle.std.proofs.lemmas.Option.{slice_get-get_or, slice_get_past, get_or_from_slice_get, slice_get_within}
use Rattle.std.proofs.lemmas.List.{map-append, take-append-le, take_more, get_or-drop, get_or-set_other, append-nil}
use Rattle.std.proofs.lemmas.Bool.{cases_lt, cases_eq}
use Rattle.std.proofs.lemmas.List.Kept.{AllPairs-from_increasing}
use Rattle.gw_reorder.specs.State.{DeskState, with_due, nothing_due}
use Rattle.gw_reorder.specs.Calls.{place_of, status_of, status_at, slot_status, after_holding, after_bringing, next_of, after_giving, kept_with, kept_pair}
use Rattle.gw_reorder.specs.own.Standing.{Stands}
use Rattle.gw_reorder.specs.Runs.{earlier, brought_for, with_its_value}
use Rattle.gw_reorder.specs.declared.desk.Status.{Status}
use Rattle.gw_reorder.specs.declared.desk.Status.TheVariants.{Waiting, Repeat, Stranger}
use Rattle.gw_reorder.proofs.Places.{equals, differs, equal_numbers, rising_differ}
use Rattle.gw_reorder.proofs.Slots.{status_here, before}

-- a number is due, or it isn't among those that are
found_or_not : (due : List ℕ) (n : ℕ) → ((p : ℕ) × (position (λ m. m == n) due ≡ Some p)) ⊎ (position (λ m. m == n) due ≡ None)
found_or_not due n = by (position (λ m. m == n) due) refl
  where
    by : (o : Option ℕ) → position (λ m. m == n) due ≡ o → ((p : ℕ) × (position (λ m. m == n) due ≡ Some p)) ⊎ (position (λ m. m == n) due ≡ None)
    by (Some p) e = inl (p, e)
    by None e = inr e

module _ {T : Type 0} where
  -- the state that is left by a call that changes nothing that is due, given or kept
  steady : (o : Option T) (b : Bool) (x : T) → (b ≡ true → (y : T) × (o ≡ Some y)) → earlier o (if b then Some x else None) ≡ o
  steady (Some y) b x taken = refl
  steady None true x taken = let t = taken refl in absurd cc
  steady None false x taken = refl

  -- what was there first stays
  stays : (o later : Option T) (y : T) → o ≡ Some y → earlier o later ≡ Some y
  stays (Some z) later y e = e
  stays None later y e = absurd cc

  pub none_due : Stands {T = T} nothing_due [] [] (λ n. None)
  none_due = record {
    due_is = refl;
    places = refl;
    count = refl;
    slots = λ i lt. absurd (omega arith);
    past = λ i lt. absurd (omega arith);
    strangers = λ n none. refl;
    numbers = refl;
    values = All-nil (λ p. None ≡ Some p.1);
  }

  pub more_due : (s : DeskState T) (due : List ℕ) (given : List (ℕ × T)) (kept : ℕ → Option T) (n : ℕ) → Stands s due given kept → IsStrictlyIncreasing (due ++ n ∷ []) → Stands (with_due s n) (due ++ n ∷ []) given kept
  more_due s due given kept n old rising = record {
    due_is = ap (λ xs. xs ++ n ∷ []) old.due_is;
    places = grind (arith, common_steps, old.places);
    count = old.count;
    slots = λ i lt. slot i lt (cases_lt i (length s.kept));
    past = λ i lt. past i lt;
    strangers = λ m none. old.strangers m (λ k lt. none_below m none k lt);
    numbers = old.numbers ∙ sym (take-append-le s.released due (n ∷ []) (omega (arith, old.places)));
    values = old.values;
  }
    where
      longer : length (due ++ n ∷ []) ≡ length due + 1
      longer = length-append due (n ∷ [])

      here : (k : ℕ) → k < length due → get_or (due ++ n ∷ []) k 0 ≡ get_or due k 0
      here k lt = grind (arith, common_steps)

      last : get_or (due ++ n ∷ []) (length due) 0 ≡ n
      last = grind (arith, common_steps)

      new_number : kept n ≡ None
      new_number = old.strangers n (λ k lt same. let up : get_or (due ++ n ∷ []) k 0 < get_or (due ++ n ∷ []) (length due) 0 = AllPairs-from_increasing (due ++ n ∷ []) rising k (length due) 0 lt (omega (arith, longer)) in absurd (omega (arith, here k lt, last, same)))

      slot : (i : ℕ) → i < length (s.kept ++ None ∷ []) → (i < length s.kept) ⊎ (length s.kept ≤ i) → get_or (s.kept ++ None ∷ []) i None ≡ kept (get_or (due ++ n ∷ []) (s.released + i) 0)
      slot i lt (inl below) =
          let left : get_or (s.kept ++ None ∷ []) i None ≡ get_or s.kept i None = grind (arith, common_steps) in
          left ∙ (old.slots i below ∙ ap kept (sym (here (s.released + i) (omega (arith, old.places)))))
      slot i lt (inr above) =
          let same : i ≡ length s.kept = omega (arith, length-append s.kept (None ∷ [])) in
          let end : s.released + i ≡ length due = omega (arith, old.places) in
          let left : get_or (s.kept ++ None ∷ []) i None ≡ None = rw same (grind (arith, common_steps)) in
          left ∙ (sym new_number ∙ ap kept (sym (rw end last)))

      past : (i : ℕ) → i < s.released → (x : T) × (kept (get_or (due ++ n ∷ []) i 0) ≡ Some x)
      past i lt = let there = old.past i lt in (there.0, ap kept (here i (omega (arith, old.places))) ∙ there.1)

      none_below : (m : ℕ) → ((k : ℕ) → k < length (due ++ n ∷ []) → get_or (due ++ n ∷ []) k 0 ≢ m) → (k : ℕ) → k < length due → get_or due k 0 ≢ m
      none_below m none k lt same = none k (omega (arith, longer)) (here k lt ∙ same)

  pub more_given : (s : DeskState T) (due : List ℕ) (given : List (ℕ × T)) (kept : ℕ → Option T) → Stands s due given kept → next_of s ≡ with_its_value kept (slice_get due (length given))
  more_given s due given kept old = by s.kept refl
    where
      by : (ks : List (Option T)) → s.kept ≡ ks → next_of s ≡ with_its_value kept (slice_get due (length given))
      by [] e =
          let none : slice_get due s.released ≡ None = slice_get_past due s.released (omega (arith, old.places, ap length e)) in
          ap (λ xs. kept_pair (slice_get xs s.released) (slice_get s.kept 0)) old.due_is
          ∙ (ap (λ o. kept_pair o (slice_get s.kept 0)) none ∙ sym (ap (λ k. with_its_value kept (slice_get due k)) old.count ∙ ap (with_its_value kept) none))
      by (k ∷ ks) e =
          let inside : s.released < length due = omega (arith, old.places, ap length e) in
          let some : slice_get due s.released ≡ Some (get_or due s.released 0) = slice_get-get_or due s.released 0 inside in
          let first : k ≡ kept (get_or due s.released 0) = sym (ap (λ xs. get_or xs 0 None) e) ∙ (old.slots 0 (omega (arith, ap length e)) ∙ ap (λ i. kept (get_or due i 0)) (omega arith)) in
          ap (λ xs. kept_pair (slice_get xs s.released) (slice_get s.kept 0)) old.due_is
          ∙ (ap (λ o. kept_pair o (slice_get s.kept 0)) some ∙ (ap (λ xs. kept_pair (Some (get_or due s.released 0)) (slice_get xs 0)) e
          ∙ (paired (get_or due s.released 0) k (kept (get_or due s.released 0)) first
          ∙ sym (ap (λ i. with_its_value kept (slice_get due i)) old.count ∙ ap (with_its_value kept) some))))
        where
          paired : (n : ℕ) (k o : Option T) → k ≡ o → kept_pair (Some n) (Some k) ≡ option_map (λ x. (n, x)) o
          paired n k o e = ap (λ o. option_map (λ x. (n, x)) o) e

  -- one more number is given out, with its value
  one_given : (s : DeskState T) (due : List ℕ) (given : List (ℕ × T)) (kept : ℕ → Option T) (n : ℕ) (x : T) → Stands s due given kept → slice_get due s.released ≡ Some n → kept n ≡ Some x → 0 < length s.kept → Stands (after_giving s (Some (n, x))) due (given ++ (n, x) ∷ []) kept
  one_given s due given kept n x old number value some = record {
    due_is = old.due_is;
    places = omega (arith, old.places, length-drop 1 s.kept);
    count = omega (arith, old.count, length-append given ((n, x) ∷ []));
    slots = λ i lt.
        let next : s.released + (1 + i) ≡ s.released + 1 + i = omega arith in
        get_or-drop 1 s.kept i None ∙ (old.slots (1 + i) (omega (arith, length-drop 1 s.kept)) ∙ ap (λ j. kept (get_or due j 0)) next);
    past = λ i lt. past i (cases_lt i s.released) lt;
    strangers = old.strangers;
    numbers = map-append (λ p. p.0) given ((n, x) ∷ [])
        ∙ (ap (λ xs. xs ++ n ∷ []) old.numbers ∙ sym (take_more due s.released 0 inside ∙ ap (λ m. take s.released due ++ m ∷ []) there));
    values = All-push (λ p. kept p.0 ≡ Some p.1) given (n, x) old.values value;
  }
    where
      inside : s.released < length due
      inside = slice_get_within due s.released n number

      there : get_or due s.released 0 ≡ n
      there = get_or_from_slice_get due s.released n 0 number

      past : (i : ℕ) → (i < s.released) ⊎ (s.released ≤ i) → i < s.released + 1 → (y : T) × (kept (get_or due i 0) ≡ Some y)
      past i (inl below) lt = old.past i below
      past i (inr above) lt = let same : i ≡ s.released = omega arith in (x, ap (λ j. kept (get_or due j 0)) same ∙ (ap kept there ∙ value))

  pub after_release : (s : DeskState T) (due : List ℕ) (given : List (ℕ × T)) (kept : ℕ → Option T) → Stands s due given kept → Stands (after_giving s (next_of s)) due (given ++ option_to_list (next_of s)) kept
  after_release s due given kept old = number (slice_get due s.released) refl
    where
      next : next_of s ≡ with_its_value kept (slice_get due s.released)
      next = more_given s due given kept old ∙ ap (λ i. with_its_value kept (slice_get due i)) old.count

      nothing : next_of s ≡ None → Stands (after_giving s (next_of s)) due (given ++ option_to_list (next_of s)) kept
      nothing e = subst (λ o. Stands (after_giving s o) due (given ++ option_to_list o) kept) (sym e) (subst (λ gs. Stands s due gs kept) (sym (append-nil given)) old)

      value : (n : ℕ) → slice_get due s.released ≡ Some n → (o : Option T) → kept n ≡ o → Stands (after_giving s (next_of s)) due (given ++ option_to_list (next_of s)) kept
      value n there None e = nothing (next ∙ (ap (with_its_value kept) there ∙ ap (option_map (λ x. (n, x))) e))
      value n there (Some x) e =
          subst (λ o. Stands (after_giving s o) due (given ++ option_to_list o) kept) (sym (next ∙ (ap (with_its_value kept) there ∙ ap (option_map (λ x. (n, x))) e)))
          (one_given s due given kept n x old there e (let inside = slice_get_within due s.released n there in omega (arith, old.places)))

      number : (o : Option ℕ) → slice_get due s.released ≡ o → Stands (after_giving s (next_of s)) due (given ++ option_to_list (next_of s)) kept
      number None e = nothing (next ∙ ap (with_its_value kept) e)
      number (Some n) e = value n e (kept n) refl

  -- a value is brought, and what is kept stays as it was
  kept_as_it_was : (s : DeskState T) (due : List ℕ) (given : List (ℕ × T)) (kept : ℕ → Option T) (m : ℕ) (x : T) → Stands s due given kept → ((n : ℕ) → earlier (kept n) (brought_for due m x n) ≡ kept n) → Stands s due given (λ n. earlier (kept n) (brought_for due m x n))
  kept_as_it_was s due given kept m x old same = record {
    due_is = old.due_is;
    places = old.places;
    count = old.count;
    slots = λ i lt. old.slots i lt ∙ sym (same (get_or due (s.released + i) 0));
    past = λ i lt. let there = old.past i lt in (there.0, same (get_or due i 0) ∙ there.1);
    strangers = λ n none. same n ∙ old.strangers n none;
    numbers = old.numbers;
    values = All-weaker (λ p. kept p.0 ≡ Some p.1) (λ p. earlier (kept p.0) (brought_for due m x p.0) ≡ Some p.1) (λ p e. same p.0 ∙ e) given old.values;
  }

  -- a value is kept for a number that had none
  kept_anew : (s : DeskState T) (due : List ℕ) (given : List (ℕ × T)) (kept : ℕ → Option T) (m p : ℕ) (x : T) → Stands s due given kept → IsStrictlyIncreasing due → position (λ k. k == m) due ≡ Some p → s.released ≤ p → kept m ≡ None
      → Stands (record s { kept = slice_set s.kept (p - s.released) (Some x) }) due given (λ n. earlier (kept n) (brought_for due m x n))
  kept_anew s due given kept m p x old rising here behind free = record {
    due_is = old.due_is;
    places = omega (arith, old.places, length-set s.kept (p - s.released) (Some x));
    count = old.count;
    slots = λ i lt. slot i (omega (arith, length-set s.kept (p - s.released) (Some x))) (cases_eq i (p - s.released));
    past = λ i lt. let there = old.past i lt in (there.0, stays (kept (get_or due i 0)) (brought_for due m x (get_or due i 0)) there.0 there.1);
    strangers = λ n none. others n (λ same. none p found.0 (at ∙ same)) ∙ old.strangers n none;
    numbers = old.numbers;
    values = All-weaker (λ p. kept p.0 ≡ Some p.1) (λ p. earlier (kept p.0) (brought_for due m x p.0) ≡ Some p.1) (λ p e. stays (kept p.0) (brought_for due m x p.0) p.1 e) given old.values;
  }
    where
      found : (p < length due) × ((get_or due p 0 == m) ≡ true) × ((k : ℕ) → k < p → (get_or due k 0 == m) ≡ false)
      found = position-Some (λ k. k == m) due p 0 here

      at : get_or due p 0 ≡ m
      at = equal_numbers (get_or due p 0) m found.1

      others : (n : ℕ) → m ≢ n → earlier (kept n) (brought_for due m x n) ≡ kept n
      others n other = steady (kept n) ((m == n) && is_some (position (λ k. k == n) due)) x (λ both. absurd (not_both (is_some (position (λ k. k == n) due)) (ap (λ b. b && is_some (position (λ k. k == n) due)) (sym (differs m n other)) ∙ both)))
        where
          not_both : (b : Bool) → (false && b) ≡ true → ⊥
          not_both b e = cc

      itself : earlier (kept m) (brought_for due m x m) ≡ Some x
      itself =
          ap (λ o. earlier o (brought_for due m x m)) free
          ∙ (ap (λ b. if b && is_some (position (λ k. k == m) due) then Some x else None) (equals m m refl)
          ∙ ap (λ o. if true && is_some o then Some x else None) here)

      slot : (i : ℕ) → i < length s.kept → (i ≡ p - s.released) ⊎ (i ≢ p - s.released) → get_or (slice_set s.kept (p - s.released) (Some x)) i None ≡ earlier (kept (get_or due (s.released + i) 0)) (brought_for due m x (get_or due (s.released + i) 0))
      slot i lt (inl same) =
          let place : s.released + i ≡ p = omega arith in
          get_or-set_at s.kept (p - s.released) i (Some x) None same (omega arith)
          ∙ sym (ap (λ j. earlier (kept (get_or due j 0)) (brought_for due m x (get_or due j 0))) place ∙ (ap (λ n. earlier (kept n) (brought_for due m x n)) at ∙ itself))
      slot i lt (inr other) =
          let place : s.released + i ≢ p = λ e. other (omega arith) in
          get_or-set_other s.kept (p - s.released) i (Some x) None other
          ∙ (old.slots i lt ∙ sym (others (get_or due (s.released + i) 0) (λ same. rising_differ due rising (s.released + i) p (omega (arith, old.places)) found.0 place (sym same ∙ sym at))))

  taken_as : (due : List ℕ) (kept : ℕ → Option T) (m : ℕ) (x y : T) → kept m ≡ Some y → (n : ℕ) → earlier (kept n) (brought_for due m x n) ≡ kept n
  taken_as due kept m x y taken n = steady (kept n) ((m == n) && is_some (position (λ k. k == n) due)) x (λ both. (y, ap kept (sym (equal_numbers m n (first_true (m == n) (is_some (position (λ k. k == n) due)) both))) ∙ taken))
    where
      first_true : (a b : Bool) → (a && b) ≡ true → a ≡ true
      first_true true b e = refl
      first_true false b e = e

  stranger_as : (due : List ℕ) (kept : ℕ → Option T) (m : ℕ) (x : T) → position (λ k. k == m) due ≡ None → (n : ℕ) → earlier (kept n) (brought_for due m x n) ≡ kept n
  stranger_as due kept m x none n = steady (kept n) ((m == n) && is_some (position (λ k. k == n) due)) x (λ both. absurd (neither (m == n) refl both))
    where
      neither : (b : Bool) → (m == n) ≡ b → (b && is_some (position (λ k. k == n) due)) ≡ true → ⊥
      neither true e both = let gone = ap (λ j. is_some (position (λ k. k == j) due)) (sym (equal_numbers m n e)) ∙ ap is_some none in cc
      neither false e both = cc

  pub after_hold : (s : DeskState T) (due : List ℕ) (given : List (ℕ × T)) (kept : ℕ → Option T) (m : ℕ) (x : T) → Stands s due given kept → IsStrictlyIncreasing due → Stands (after_holding s m x) due given (λ n. earlier (kept n) (brought_for due m x n))
  after_hold s due given kept m x old rising = place (found_or_not due m)
    where
      by_status : (told : Status) → status_of s m ≡ told → Stands (after_bringing s told m x) due given (λ n. earlier (kept n) (brought_for due m x n)) → Stands (after_holding s m x) due given (λ n. earlier (kept n) (brought_for due m x n))
      by_status told e = subst (λ t. Stands (after_bringing s t m x) due given (λ n. earlier (kept n) (brought_for due m x n))) (sym e)

      stands_at : (o : Option ℕ) → position (λ k. k == m) due ≡ o → place_of s m ≡ o
      stands_at o e = ap (position (λ k. k == m)) old.due_is ∙ e

      at : (p : ℕ) → position (λ k. k == m) due ≡ Some p → get_or due p 0 ≡ m
      at p here = equal_numbers (get_or due p 0) m (position-Some (λ k. k == m) due p 0 here).1

      slot : (p : ℕ) → position (λ k. k == m) due ≡ Some p → s.released ≤ p → (o : Option T) → get_or s.kept (p - s.released) None ≡ o → Stands (after_holding s m x) due given (λ n. earlier (kept n) (brought_for due m x n))
      slot p here behind o e = by_slot o e
        where
          inside : p - s.released < length s.kept
          inside = let found = position-Some (λ k. k == m) due p 0 here in omega (arith, found.0, old.places)

          told : status_of s m ≡ slot_status (Some (get_or s.kept (p - s.released) None))
          told = status_here s m p (stands_at (Some p) here) behind ∙ ap slot_status (slice_get-get_or s.kept (p - s.released) None inside)

          value : get_or s.kept (p - s.released) None ≡ kept m
          value = old.slots (p - s.released) inside ∙ (ap (λ i. kept (get_or due i 0)) (let place : s.released + (p - s.released) ≡ p = omega arith in place) ∙ ap kept (at p here))

          by_slot : (o : Option T) → get_or s.kept (p - s.released) None ≡ o → Stands (after_holding s m x) due given (λ n. earlier (kept n) (brought_for due m x n))
          by_slot (Some y) e = by_status Repeat (told ∙ ap (λ o. slot_status (Some o)) e) (kept_as_it_was s due given kept m x old (taken_as due kept m x y (sym value ∙ e)))
          by_slot None e =
              by_status Waiting (told ∙ ap (λ o. slot_status (Some o)) e)
              (subst (λ t. Stands (record s { kept = kept_with s t x }) due given (λ n. earlier (kept n) (brought_for due m x n))) (sym (stands_at (Some p) here))
              (kept_anew s due given kept m p x old rising here behind (sym value ∙ e)))

      early : (p : ℕ) → place_of s m ≡ Some p → p < s.released → status_of s m ≡ Repeat
      early p here lt = ap (status_at s) here ∙ before s p lt

      place : ((p : ℕ) × (position (λ k. k == m) due ≡ Some p)) ⊎ (position (λ k. k == m) due ≡ None) → Stands (after_holding s m x) due given (λ n. earlier (kept n) (brought_for due m x n))
      place (inr none) = by_status Stranger (ap (status_at s) (stands_at None none)) (kept_as_it_was s due given kept m x old (stranger_as due kept m x none))
      place (inl (p, here)) = side p here (cases_lt p s.released)
        where
          side : (p : ℕ) → position (λ k. k == m) due ≡ Some p → (p < s.released) ⊎ (s.released ≤ p) → Stands (after_holding s m x) due given (λ n. earlier (kept n) (brought_for due m x n))
          side p here (inl lt) =
              let there = old.past p lt in
              by_status Repeat (early p (stands_at (Some p) here) lt) (kept_as_it_was s due given kept m x old (taken_as due kept m x there.0 (ap kept (sym (at p here)) ∙ there.1)))
          side p here (inr behind) = slot p here behind (get_or s.kept (p - s.released) None) refl

  -- more room is no more than room
  pub roomier : (s : DeskState T) (due : List ℕ) (given : List (ℕ × T)) (kept : ℕ → Option T) (n : ℕ) → Stands s due given kept → Stands (record s { room = n }) due given kept
  roomier s due given kept n old = record {
    due_is = old.due_is;
    places = old.places;
    count = old.count;
    slots = old.slots;
    past = old.past;
    strangers = old.strangers;
    numbers = old.numbers;
    values = old.values;
  }
