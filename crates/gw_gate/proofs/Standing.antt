-- Desks that stand as the journal says.
use Rattle.std.proofs.Common.{◌≡◌, ◌≢◌, ◌==◌, ◌&&◌, ℕ, zero, suc, ◌+◌, ◌<◌, ◌≤◌, Bool, true, false, if◌then◌else◌, List, [], ◌∷◌, ◌++◌, Option, None, Some, is_some, position, get_or, ◌-◌, ◌⊎◌, inl, inr, length, map, All, refl, sym, ap, subst, ◌∙◌, arith, append-nil}
use Rattle.std.specs.Prelude.{filter, cond, ◌||◌}
use Rattle.std.specs.Option.{option_to_list}
use Rattle.std.specs.List.Sorted.{IsStrictlyIncreasing}
use Rattle.std.proofs.lemmas.List.{map-append}
use Rattle.std.proofs.lemmas.List.Elements.{All-nil, All-cons, All-weaker}
use Rattle.std.proofs.lemmas.Grind.{common_steps}
use Rattle.std.proofs.lemmas.Bool.{cases_lt, false≢true}
use Rattle.std.proofs.lemmas.Option.{slice_get-get_or, none-some}
use Rattle.std.proofs.lemmas.List.Quantifiers.{position-Some}
use Rattle.std.proofs.lemmas.List.Folds.{list_any_at}
use Rattle.std.specs.List.{list_any}
use Rattle.gw_reorder.specs.declared.desk.Status.{Status}
use Rattle.gw_reorder.proofs.Slots.{status_here}
use Rattle.gw_reorder.specs.State.{DeskState, SameButRoom, with_due}
use Rattle.gw_reorder.specs.Calls.{place_of, status_of, status_at, slot_status, after_holding, next_of, after_giving}
use Rattle.gw_reorder.specs.Runs.{earlier, brought_for}
use Rattle.gw_reorder.specs.declared.desk.Status.TheVariants.{Waiting, Repeat, Stranger}
use Rattle.gw_reorder.proofs.Places.{rising_more, equal_numbers, equals, differs}
use Rattle.gw_reorder.specs.own.Standing.{Stands}
use Rattle.gw_reorder.proofs.Steps.{more_due, after_release, after_hold, roomier}
use Rattle.gw_gate.specs.Parts.{ConformingSeen, TranslatedSeen, delivers}
use Rattle.gw_gate.specs.Journal.{EntrySeen, WasAccepted, WasKept, WasOut, Acceptance, Release, accepted, due, kept, released}
use Rattle.gw_gate.specs.Headline.{CountFrom, RiseFrom}
use Rattle.gw_gate.specs.own.Books.{given, StandsAt}
use Rattle.gw_gate.specs.own.Desks.{due_to}
use Rattle.gw_gate.proofs.Journals.{either, due-append, kept-append, released-append}
use Rattle.gw_gate.proofs.Numbering.{n_of, rise_among}

abbrev Desk : Type 0
Desk = DeskState TranslatedSeen

-- ---- due numbers rise

rise_strict : (low : ℕ) (ns : List ℕ) → RiseFrom low ns → IsStrictlyIncreasing ns
rise_strict low [] all k lt = absurd (omega arith)
rise_strict low (n ∷ []) all k lt = absurd (omega arith)
rise_strict low (n ∷ m ∷ ns) all zero lt = let a = all.1.0 in omega arith
rise_strict low (n ∷ m ∷ ns) all (suc k) lt =
    let next : suc (k + 1) ≡ suc k + 1 = omega arith in
    subst (λ j. get_or (n ∷ m ∷ ns) (suc k) 0 < get_or (n ∷ m ∷ ns) j 0) next (rise_strict (n + 1) (m ∷ ns) all.1 k (omega arith))

pub due_rises : (h : List EntrySeen) (first r : ℕ) → CountFrom first (map n_of (accepted h)) → IsStrictlyIncreasing (due h r)
due_rises h first r counted = rise_strict first (due h r) (rise_among (λ a. delivers a.conforming r) first (accepted h) counted)

count_below : (test : Acceptance → Bool) (first : ℕ) (xs : List Acceptance) → CountFrom first (map n_of xs) → All (λ m. m < first + length xs) (map n_of (filter test xs))
count_below test first [] all = All-nil (λ m. m < first + 0)
count_below test first (x ∷ xs) all =
    let is = all.0 in
    let later : All (λ m. m < first + length (x ∷ xs)) (map n_of (filter test xs)) =
    All-weaker (λ m. m < first + 1 + length xs) (λ m. m < first + length (x ∷ xs)) (λ m lt. omega (arith, lt)) (map n_of (filter test xs)) (count_below test (first + 1) xs all.1) in
    elim (test x) as (λ b. All (λ m. m < first + length (x ∷ xs)) (map n_of (cond b (x ∷ filter test xs) (filter test xs)))) [
      | true ↦ All-cons (λ m. m < first + length (x ∷ xs)) x.n (map n_of (filter test xs)) (omega (arith, is)) later
      | false ↦ later
    ]

pub due_below : (h : List EntrySeen) (first r n : ℕ) → CountFrom first (map n_of (accepted h)) → n ≡ first + length (accepted h) → All (λ m. m < n) (due h r)
due_below h first r n counted is =
    All-weaker (λ m. m < first + length (accepted h)) (λ m. m < n) (λ m lt. omega (arith, lt, is)) (due h r) (count_below (λ a. delivers a.conforming r) first (accepted h) counted)

-- ---- desks

module _ {T : Type 0} where
  restand : (s : DeskState T) (d e : List ℕ) (g k : List (ℕ × T)) (f j : ℕ → Option T) → e ≡ d → k ≡ g → ((n : ℕ) → j n ≡ f n) → Stands s d g f → Stands s e k j
  restand s d e g k f j a b c old =
      subst (λ l. Stands s l k j) (sym a) (subst (λ l. Stands s d l j) (sym b) (subst (λ w. Stands s d g w) (λ i n. sym (c n) i) old))

  pub stands_same : (s t : DeskState T) (d : List ℕ) (g : List (ℕ × T)) (f : ℕ → Option T) → SameButRoom s t → Stands s d g f → Stands t d g f
  stands_same s t d g f same old =
      subst (λ u. Stands u d g f) (λ i. record { due = sym same.due i; released = sym same.released i; kept = sym same.kept i; room = t.room }) (roomier s d g f t.room old)

or_none : {X : Type 0} (o : Option X) → either o None ≡ o
or_none None = refl
or_none (Some x) = refl

-- entries that speak of nothing that a desk has
pub desk_same : (h g : List EntrySeen) (r : ℕ) (s : Desk) → accepted g ≡ [] → released g r ≡ [] → ((n : ℕ) → kept g n r ≡ None) → StandsAt h r s → StandsAt (h ++ g) r s
desk_same h g r s a o k old =
    restand s (due h r) (due (h ++ g) r) (map given (released h r)) (map given (released (h ++ g) r)) (λ n. kept h n r) (λ n. kept (h ++ g) n r)
    (due-append h g r ∙ ap (λ l. due h r ++ map n_of (filter (λ x. delivers x.conforming r) l)) a ∙ append-nil (due h r))
    (ap (map given) (released-append h g r ∙ ap (λ l. released h r ++ l) o ∙ append-nil (released h r)))
    (λ n. kept-append h g n r ∙ ap (either (kept h n r)) (k n) ∙ or_none (kept h n r))
    old

-- a message was accepted
pub desk_accepted : (h : List EntrySeen) (first n arrival r : ℕ) (c : ConformingSeen) (s t : Desk) → CountFrom first (map n_of (accepted h)) → n ≡ first + length (accepted h) → t ≡ due_to c n r s → StandsAt h r s → StandsAt (h ++ WasAccepted n arrival c ∷ []) r t
desk_accepted h first n arrival r c s t counted is same old = by (delivers c r) refl
  where
    e : List EntrySeen
    e = WasAccepted n arrival c ∷ []

    new : Acceptance
    new = record { n = n; conforming = c }

    stands : (b : Bool) → delivers c r ≡ b → Stands (if b then with_due s n else s) (due h r ++ map n_of (cond b (new ∷ []) [])) (map given (released h r)) (λ m. kept h m r)
    stands true e = more_due s (due h r) (map given (released h r)) (λ m. kept h m r) n old (rising_more (due h r) n (due_rises h first r counted) (due_below h first r n counted is))
    stands false e = subst (λ l. Stands s l (map given (released h r)) (λ m. kept h m r)) (sym (append-nil (due h r))) old

    by : (b : Bool) → delivers c r ≡ b → StandsAt (h ++ WasAccepted n arrival c ∷ []) r t
    by b f =
        subst (StandsAt (h ++ e) r) (sym (same ∙ ap (λ x. if x then with_due s n else s) f))
        (restand (if b then with_due s n else s) (due h r ++ map n_of (cond b (new ∷ []) [])) (due (h ++ e) r) (map given (released h r)) (map given (released (h ++ e) r)) (λ m. kept h m r) (λ m. kept (h ++ e) m r)
        (due-append h e r ∙ ap (λ x. due h r ++ map n_of (cond x (new ∷ []) [])) f)
        (ap (map given) (released-append h e r ∙ append-nil (released h r)))
        (λ m. kept-append h e m r ∙ or_none (kept h m r))
        (stands b f))

-- ---- what a desk tells

-- what a number is, by whether it is due and whether a value was kept for it
abbrev pub status_by : Bool → Bool → Status
status_by false kept = Stranger
status_by true false = Waiting
status_by true true = Repeat

any_none : (xs : List ℕ) (n : ℕ) → position (λ m. m == n) xs ≡ None → list_any (λ m. m == n) xs ≡ false
any_none [] n none = refl
any_none (x ∷ xs) n none = by (any_none xs n) (x == n) refl
  where
    first : (x == n) ≡ true → position (λ m. m == n) (x ∷ xs) ≡ Some 0
    first e = grind (arith, common_steps)

    later : (x == n) ≡ false → position (λ m. m == n) xs ≡ None
    later e = grind (arith, common_steps, none)

    by : (position (λ m. m == n) xs ≡ None → list_any (λ m. m == n) xs ≡ false) → (b : Bool) → (x == n) ≡ b → list_any (λ m. m == n) (x ∷ xs) ≡ false
    by more true e = absurd (none-some 0 (sym none ∙ first e))
    by more false e = ap (λ b. b || list_any (λ m. m == n) xs) e ∙ more (later e)

any_some : (xs : List ℕ) (n p : ℕ) → position (λ m. m == n) xs ≡ Some p → list_any (λ m. m == n) xs ≡ true
any_some xs n p some = let found = position-Some (λ m. m == n) xs p 0 some in list_any_at (λ m. m == n) xs p 0 found.0 found.1

slot_by : {T : Type 0} (o : Option T) → slot_status (Some o) ≡ status_by true (is_some o)
slot_by None = refl
slot_by (Some x) = refl

module _ {T : Type 0} where
  told_at : (s : DeskState T) (d : List ℕ) (g : List (ℕ × T)) (f : ℕ → Option T) (n p : ℕ) → Stands s d g f → position (λ m. m == n) d ≡ Some p → (p < s.released) ⊎ (s.released ≤ p) → status_of s n ≡ status_by true (is_some (f n))
  told_at s d g f n p old here (inl early) =
      let found = position-Some (λ m. m == n) d p 0 here in
      let there = old.past p early in
      let place : place_of s n ≡ Some p = ap (position (λ m. m == n)) old.due_is ∙ here in
      let some : f n ≡ Some there.0 = ap f (sym (equal_numbers (get_or d p 0) n found.1)) ∙ there.1 in
      let repeat : status_at s (Some p) ≡ Repeat = grind (arith, common_steps) in
      ap (status_at s) place ∙ repeat ∙ ap (λ o. status_by true (is_some o)) (sym some)
  told_at s d g f n p old here (inr late) =
      let found = position-Some (λ m. m == n) d p 0 here in
      let place : place_of s n ≡ Some p = ap (position (λ m. m == n)) old.due_is ∙ here in
      let inside : p - s.released < length s.kept = omega (arith, found.0, old.places) in
      let same : s.released + (p - s.released) ≡ p = omega arith in
      let value : get_or s.kept (p - s.released) None ≡ f n =
      old.slots (p - s.released) inside ∙ ap (λ i. f (get_or d i 0)) same ∙ ap f (equal_numbers (get_or d p 0) n found.1) in
      status_here s n p place late ∙ ap slot_status (slice_get-get_or s.kept (p - s.released) None inside) ∙ slot_by (get_or s.kept (p - s.released) None) ∙ ap (λ o. status_by true (is_some o)) value

  pub status_stands : (s : DeskState T) (d : List ℕ) (g : List (ℕ × T)) (f : ℕ → Option T) (n : ℕ) → Stands s d g f → status_of s n ≡ status_by (list_any (λ m. m == n) d) (is_some (f n))
  status_stands s d g f n old = by (position (λ m. m == n) d) refl
    where
      by : (o : Option ℕ) → position (λ m. m == n) d ≡ o → status_of s n ≡ status_by (list_any (λ m. m == n) d) (is_some (f n))
      by None e = ap (status_at s) (ap (position (λ m. m == n)) old.due_is ∙ e) ∙ ap (λ b. status_by b (is_some (f n))) (sym (any_none d n e))
      by (Some p) e = told_at s d g f n p old e (cases_lt p s.released) ∙ ap (λ b. status_by b (is_some (f n))) (sym (any_some d n p e))

-- ---- what is put and what is given out

same_pair : (t : TranslatedSeen) (m n r : ℕ) → t.receiver ≡ r → ((m == n) && (t.receiver == r)) ≡ (m == n)
same_pair t m n r is = ap (λ b. (m == n) && b) (equals t.receiver r is) ∙ all (m == n)
  where
    all : (b : Bool) → (b && true) ≡ b
    all true = refl
    all false = refl

brought : (d : List ℕ) (m : ℕ) (t : TranslatedSeen) (n : ℕ) → list_any (λ k. k == m) d ≡ true → brought_for d m t n ≡ (if m == n then Some t else None)
brought d m t n wanted = by (m == n) refl
  where
    there : (o : Option ℕ) → position (λ k. k == m) d ≡ o → is_some (position (λ k. k == m) d) ≡ true
    there None e = absurd (false≢true (sym (any_none d m e) ∙ wanted))
    there (Some p) e = ap is_some e

    by : (b : Bool) → (m == n) ≡ b → (if (m == n) && is_some (position (λ k. k == n) d) then Some t else None) ≡ (if m == n then Some t else None)
    by true e =
        let place : is_some (position (λ k. k == n) d) ≡ true = subst (λ j. is_some (position (λ k. k == j) d) ≡ true) (equal_numbers m n e) (there (position (λ k. k == m) d) refl) in
        ap (λ b. if (m == n) && b then Some t else None) place ∙ ap (λ b. if b && true then Some t else None) e ∙ sym (ap (λ b. if b then Some t else None) e)
    by false e = ap (λ b. if b && is_some (position (λ k. k == n) d) then Some t else None) e ∙ sym (ap (λ b. if b then Some t else None) e)

either_earlier : {X : Type 0} (o p : Option X) → either o p ≡ earlier o p
either_earlier None p = refl
either_earlier (Some x) p = refl

pub desk_kept : (h : List EntrySeen) (first m r : ℕ) (t : TranslatedSeen) (s u : Desk) → CountFrom first (map n_of (accepted h)) → t.receiver ≡ r → list_any (λ k. k == m) (due h r) ≡ true → u ≡ after_holding s m t → StandsAt h r s → StandsAt (h ++ WasKept m t ∷ []) r u
desk_kept h first m r t s u counted to wanted is old =
    let e : List EntrySeen = WasKept m t ∷ [] in
    subst (StandsAt (h ++ e) r) (sym is)
    (restand (after_holding s m t) (due h r) (due (h ++ e) r) (map given (released h r)) (map given (released (h ++ e) r)) (λ n. earlier (kept h n r) (brought_for (due h r) m t n)) (λ n. kept (h ++ e) n r)
    (due-append h e r ∙ append-nil (due h r))
    (ap (map given) (released-append h e r ∙ append-nil (released h r)))
    (λ n. kept-append h e n r ∙ ap (λ b. either (kept h n r) (if b then Some t else None)) (same_pair t m n r to) ∙ ap (either (kept h n r)) (sym (brought (due h r) m t n wanted)) ∙ either_earlier (kept h n r) (brought_for (due h r) m t n))
    (after_hold s (due h r) (map given (released h r)) (λ n. kept h n r) m t old (due_rises h first r counted)))

-- what is put for another receiver
pub desk_kept_other : (h : List EntrySeen) (m r : ℕ) (t : TranslatedSeen) (s u : Desk) → t.receiver ≢ r → u ≡ s → StandsAt h r s → StandsAt (h ++ WasKept m t ∷ []) r u
desk_kept_other h m r t s u other is old =
    subst (StandsAt (h ++ WasKept m t ∷ []) r) (sym is)
    (desk_same h (WasKept m t ∷ []) r s refl refl (λ n. ap (λ b. if (m == n) && b then Some t else None) (differs t.receiver r other) ∙ ap (λ b. if b then Some t else None) (none (m == n))) old)
  where
    none : (b : Bool) → (b && false) ≡ false
    none true = refl
    none false = refl

pub desk_out : (h : List EntrySeen) (n r : ℕ) (t : TranslatedSeen) (s u : Desk) → next_of s ≡ Some (n, t) → SameButRoom (after_giving s (next_of s)) u → StandsAt h r s → StandsAt (h ++ WasOut n r t ∷ []) r u
desk_out h n r t s u next same old =
    let e : List EntrySeen = WasOut n r t ∷ [] in
    let out : Release = record { n = n; translated = t } in
    let gs = map given (released h r) in
    let one : released e r ≡ out ∷ [] = ap (λ b. if b then out ∷ [] else []) (equals r r refl) in
    stands_same (after_giving s (next_of s)) u (due (h ++ e) r) (map given (released (h ++ e) r)) (λ m. kept (h ++ e) m r) same
    (restand (after_giving s (next_of s)) (due h r) (due (h ++ e) r) (gs ++ option_to_list (next_of s)) (map given (released (h ++ e) r)) (λ m. kept h m r) (λ m. kept (h ++ e) m r)
    (due-append h e r ∙ append-nil (due h r))
    (ap (map given) (released-append h e r ∙ ap (λ l. released h r ++ l) one) ∙ map-append given (released h r) (out ∷ []) ∙ ap (λ o. gs ++ option_to_list o) (sym next))
    (λ m. kept-append h e m r ∙ or_none (kept h m r))
    (after_release s (due h r) gs (λ m. kept h m r) old))

-- what is given out to another receiver
pub desk_out_other : (h : List EntrySeen) (n to r : ℕ) (t : TranslatedSeen) (s u : Desk) → to ≢ r → u ≡ s → StandsAt h r s → StandsAt (h ++ WasOut n to t ∷ []) r u
desk_out_other h n to r t s u other is old =
    let out : Release = record { n = n; translated = t } in
    subst (StandsAt (h ++ WasOut n to t ∷ []) r) (sym is) (desk_same h (WasOut n to t ∷ []) r s refl (ap (λ b. if b then out ∷ [] else []) (differs to r other)) (λ m. refl) old)
