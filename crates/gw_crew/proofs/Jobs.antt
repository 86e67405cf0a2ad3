-- In a lawful journal each pair that was issued is due, so its job goes to a receiver of its message's route.
use Rattle.std.proofs.Common.{◌≡◌, ◌==◌, ◌<◌, ◌+◌, ℕ, Bool, true, false, if◌then◌else◌, List, [], ◌∷◌, ◌++◌, Option, None, Some, All, map, slice_get, get_or}
use Rattle.std.proofs.Common.{refl, sym, ap, subst, ◌∙◌, arith, append-nil}
use Rattle.std.specs.Prelude.{not, find, filter, cond, ◌||◌, ◌&&◌, ⊤}
use Rattle.std.specs.List.{list_any}
use Rattle.std.proofs.lemmas.Bool.{eq-eqb, ne_eqb, eqb-true, or_left, or_right}
use Rattle.std.proofs.lemmas.List.Elements.{All-append, All-cons, All-from_get_or, All-get_or, All-map, All-nil, All-weaker}
use Rattle.std.proofs.lemmas.List.Folds.{list_any-append, list_any_at}
use Rattle.std.proofs.lemmas.Option.{get_or_from_slice_get, slice_get_within}
use Rattle.gw_gate.specs.Parts.{MessageSeen, ConformingSeen, TranslatedSeen, delivers}
use Rattle.gw_gate.specs.Journal.{EntrySeen, WasAccepted, WasKept, WasIssued, Start, Journal, Acceptance, Pair, pair, accepted, acceptance, due, is_due, issued}
use Rattle.gw_gate.specs.Replies.{EventSeen, Arrives, Refuses, Swaps, Takes, Puts, Reissues, Releases, ReplySeen, IsAccepted, IsRefused, IsSwapped, IsJob}
use Rattle.gw_gate.specs.Replies.{IsOut}
use Rattle.gw_gate.specs.Replies.{IsStranger, IsRepeat, IsKept, IsDone, IsIssued, is_kept, is_of, reply_to, added, most}
use Rattle.gw_gate.specs.Lawful.{Lawful, empty, more, IsLawful}
use Rattle.gw_gate.specs.Headline.{CountFrom, IsTranslated}
use Rattle.gw_gate.proofs.Journals.{due-append}
use Rattle.gw_gate.proofs.Entering.{issued-append}
use Rattle.gw_gate.proofs.Releasing.{journal, some_is, unlimited}
use Rattle.gw_gate.proofs.Numbering.{n_of, lawful_numbers}

-- ---- what is kept or issued again was due

abbrev pub was_due : List EntrySeen → EntrySeen → Bool
was_due h (WasKept n t) = is_due h n t.receiver
was_due h (WasIssued n r) = is_due h n r
was_due h e = true

abbrev due_if : List EntrySeen → Option EntrySeen → Bool
due_if h None = true
due_if h (Some e) = was_due h e

-- other events add other entries
abbrev IsOther : EventSeen → Type 0
IsOther (Puts n t) = ⊥
IsOther (Reissues n r) = ⊥
IsOther event = ⊤

others : (h : List EntrySeen) (event : EventSeen) (given : ReplySeen) → IsOther event → due_if h (added event given) ≡ true
others h (Puts n t) given is = absurd is
others h (Reissues n r) given is = absurd is
others h (Arrives c) (IsAccepted n arrival) is = refl
others h (Refuses code) (IsRefused arrival) is = refl
others h (Swaps plan) (IsSwapped v) is = refl
others h Takes (IsJob n r c) is = refl
others h (Releases r) (IsOut n t) is = refl
others h event given is = refl

module _ (h : List EntrySeen) (n : ℕ) where
  put : (t : TranslatedSeen) (due of kept : Bool) → is_due h n t.receiver ≡ due
      → due_if h (added (Puts n t) (if not (due && of) then IsStranger (Some t) else if kept then IsRepeat t else IsKept)) ≡ true
  put t true true false is = is
  put t true true true is = refl
  put t true false kept is = refl
  put t false of kept is = refl

  reissued : (r : ℕ) (due kept : Bool) → is_due h n r ≡ due
      → due_if h (added (Reissues n r) (if not due then IsStranger None else if kept then IsDone else IsIssued)) ≡ true
  reissued r true false is = is
  reissued r true true is = refl
  reissued r false kept is = refl

pub added_due : (j : Journal) (event : EventSeen) (e : EntrySeen) → added event (reply_to j event) ≡ Some e → was_due j.entries e ≡ true
added_due j event e is = sym (ap (due_if j.entries) is) ∙ by event
  where
    by : (event : EventSeen) → due_if j.entries (added event (reply_to j event)) ≡ true
    by (Puts n t) = put j.entries n t (is_due j.entries n t.receiver) (is_of t (acceptance j.entries n)) (is_kept j.entries n t.receiver) refl
    by (Reissues n r) = reissued j.entries n r (is_due j.entries n r) (is_kept j.entries n r) refl
    by event = others j.entries event (reply_to j event) tt

-- ---- pairs that are due

abbrev pub IsDue : List EntrySeen → Pair → Type 0
IsDue h p = is_due h p.n p.receiver ≡ true

due_stays : (g h : List EntrySeen) (p : Pair) → IsDue g p → IsDue (g ++ h) p
due_stays g h p is =
    ap (list_any (λ m. m == p.n)) (due-append g h p.receiver) ∙ list_any-append (λ m. m == p.n) (due g p.receiver) (due h p.receiver) ∙ or_left _ _ is

-- what was accepted last is due to each receiver of its route
due_last : (h : List EntrySeen) (n arrival : ℕ) (c : ConformingSeen) (r : ℕ) → delivers c r ≡ true → IsDue (h ++ WasAccepted n arrival c ∷ []) (pair n r)
due_last h n arrival c r goes =
    let e : List EntrySeen = WasAccepted n arrival c ∷ [] in
    let new : Acceptance = record { n = n; conforming = c } in
    let one : list_any (λ m. m == n) (due e r) ≡ true = ap (λ b. list_any (λ m. m == n) (map n_of (cond b (new ∷ []) []))) goes
    ∙ or_left _ false (eq-eqb n n refl) in
    ap (list_any (λ m. m == n)) (due-append h e r) ∙ list_any-append (λ m. m == n) (due h r) (due e r) ∙ or_right _ _ one

-- the pairs that an entry issues are due with it
issues : (h : List EntrySeen) (e : EntrySeen) → was_due h e ≡ true → All (IsDue (h ++ e ∷ [])) (issued (e ∷ []))
issues h (WasAccepted n arrival c) is =
    let P = IsDue (h ++ WasAccepted n arrival c ∷ []) in
    subst (All P) (sym (append-nil (map (pair n) c.receivers))) (All-map P (pair n) c.receivers
    (All-from_get_or (λ r. P (pair n r)) c.receivers 0
    (λ i lt. let r = get_or c.receivers i 0 in due_last h n arrival c r (list_any_at (λ to. to == r) c.receivers i 0 lt (eq-eqb r r refl)))))
issues h (WasIssued n r) is =
    let P = IsDue (h ++ WasIssued n r ∷ []) in
    All-cons P (pair n r) [] (due_stays h (WasIssued n r ∷ []) (pair n r) is) (All-nil P)
issues h e is = All-nil (IsDue (h ++ e ∷ []))

-- ---- all entries

-- what was accepted under a number that is due to a receiver goes to it
pub record Found (n r : ℕ) (xs : List Acceptance) : Type 0 where
  pub by : Acceptance
  pub found : find (λ a. a.n == n) xs ≡ Some by
  pub goes : delivers by.conforming r ≡ true

abbrev pub among : ℕ → ℕ → List Acceptance → Bool
among n r xs = list_any (λ m. m == n) (map n_of (filter (λ a. delivers a.conforming r) xs))

-- numbers that count on from above it have it nowhere
none_later : (first n r : ℕ) (xs : List Acceptance) → n < first → CountFrom first (map n_of xs) → among n r xs ≡ false
none_later first n r [] lt all = refl
none_later first n r (x ∷ xs) lt all =
    let rest = none_later (first + 1) n r xs (omega arith) all.1 in
    let here : (x.n == n) ≡ false = ne_eqb x.n n (λ e. let is = all.0 in omega (arith, is, e)) in
    elim (delivers x.conforming r) as
    (λ b. list_any (λ m. m == n) (map n_of (cond b (x ∷ filter (λ a. delivers a.conforming r) xs) (filter (λ a. delivers a.conforming r) xs))) ≡ false) [
      | true ↦ ap (λ b. b || among n r xs) here ∙ rest
      | false ↦ rest
    ]

pub found_goes : (first n r : ℕ) (xs : List Acceptance) → CountFrom first (map n_of xs) → among n r xs ≡ true → Found n r xs
found_goes first n r [] all is = absurd (let no : false ≡ true = is in cc)
found_goes first n r (x ∷ xs) all is = by (x.n == n) (delivers x.conforming r) refl refl (found_goes (first + 1) n r xs all.1)
  where
    later : Bool → Bool
    later b = list_any (λ m. m == n) (map n_of (cond b (x ∷ filter (λ a. delivers a.conforming r) xs) (filter (λ a. delivers a.conforming r) xs)))

    further : (x.n == n) ≡ false → among n r xs ≡ true → (among n r xs ≡ true → Found n r xs) → Found n r (x ∷ xs)
    further e rest found =
        let next = found rest in record { by = next.by; found = ap (λ b. cond b (Some x) (find (λ a. a.n == n) xs)) e ∙ next.found; goes = next.goes }

    by : (same goes : Bool) → (x.n == n) ≡ same → delivers x.conforming r ≡ goes → (among n r xs ≡ true → Found n r xs) → Found n r (x ∷ xs)
    by true true e g found = record { by = x; found = ap (λ b. cond b (Some x) (find (λ a. a.n == n) xs)) e; goes = g }
    by true false e g found =
        let this = eqb-true x.n n e in
        let none = none_later (first + 1) n r xs (let a = all.0 in omega (arith, a, this)) all.1 in
        let rest : among n r xs ≡ true = sym (ap later g) ∙ is in
        absurd (let no : false ≡ true = sym none ∙ rest in cc)
    by false true e g found = further e (ap (λ b. b || among n r xs) (sym e) ∙ sym (ap later g) ∙ is) found
    by false false e g found = further e (sym (ap later g) ∙ is) found

pub all_at : (h : List EntrySeen) (ps : List Pair) (k : ℕ) (p : Pair) → All (IsDue h) ps → slice_get ps k ≡ Some p → IsDue h p
all_at h ps k p all is = subst (IsDue h) (get_or_from_slice_get ps k p p is) (All-get_or (IsDue h) ps k p (slice_get_within ps k p is) all)

module _ (Means : List ℕ → MessageSeen → ℕ → MessageSeen → Type 0) where
  -- each pair that was issued is due
  pub all_issued : (start : Start) (h : List EntrySeen) → Lawful (IsTranslated Means) start h → All (IsDue h) (issued h)
  all_issued start h empty = All-nil (IsDue [])
  all_issued start h (more g event e lawful fact adds) =
      let P = IsDue (g ++ e ∷ []) in
      let due = added_due (journal start g) event e (unlimited most (journal start g) event (reply_to (journal start g) event) e adds) in
      subst (All P) (sym (issued-append g (e ∷ []))) (All-append P (issued g) (issued (e ∷ []))
      (All-weaker (IsDue g) P (λ p. due_stays g (e ∷ []) p) (issued g) (all_issued start g lawful)) (issues g e due))

  -- the job of a pair goes to a receiver of its message's route
  pub job_goes : (j : Journal) (k : ℕ) (p : Pair) (a : Acceptance) → IsLawful (IsTranslated Means) j → slice_get (issued j.entries) k ≡ Some p
      → acceptance j.entries p.n ≡ Some a → delivers a.conforming p.receiver ≡ true
  job_goes j k p a lawful is accepted_so =
      let due = all_at j.entries (issued j.entries) k p (all_issued j.start j.entries lawful) is in
      let found = found_goes j.start.acceptances p.n p.receiver (accepted j.entries) (lawful_numbers Means j lawful).accepted due in
      subst (λ b. delivers b.conforming p.receiver ≡ true) (some_is found.by a (sym found.found ∙ accepted_so)) found.goes
