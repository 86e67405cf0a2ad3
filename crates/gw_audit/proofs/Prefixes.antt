-- What the first entries of a lawful journal say, and one entry more.
use Rattle.std.proofs.Common.{◌≡◌, ℕ, zero, suc, ◌+◌, ◌<◌, ◌≤◌, ◌⊎◌, inl, inr, Bool, if◌then◌else◌, List, [], ◌∷◌, ◌++◌, length, map, take, get_or, Some, refl}
use Rattle.std.proofs.Common.{sym, ap, ◌∙◌, arith, length-append, true, subst, drop, option_map}
use Rattle.std.specs.Prelude.{nat_le, slice_get, ⊤}
use Rattle.std.proofs.lemmas.Bool.{cases_lt, le-leb, lt-leb}
use Rattle.std.proofs.lemmas.List.{map-append, map_more, take-map, take_all, append_cancel_left, take-append-le, take-append-drop}
use Rattle.std.proofs.lemmas.Option.{slice_get-get_or, slice_get_past, slice_get-map, none-some}
use Rattle.gw_gate.specs.declared.event.Entry.{Entry}
use Rattle.gw_gate.specs.Parts.{PlanSeen}
use Rattle.gw_gate.specs.own.Books.{journal_of}
use Rattle.gw_gate.specs.Journal.{EntrySeen, WasSwapped, WasTaken, Start, Version, accepted, issued, jobs, pair, plans, swapped, WasAccepted, WasKept, WasOut}
use Rattle.gw_gate.specs.Journal.{is_due, current}
use Rattle.gw_gate.specs.Entries.{entry_seen, entries_seen}
use Rattle.gw_gate.specs.Meaning.{Makes}
use Rattle.gw_gate.specs.Replies.{job_of, job_with, EventSeen, added, most, reply_to}
use Rattle.gw_gate.proofs.Journals.{swapped-append, last_stands, plan_stays}
use Rattle.gw_gate.proofs.Entering.{jobs-append, issued-append}
use Rattle.gw_crew.proofs.Jobs.{all_at, all_issued, found_goes, added_due}
use Rattle.gw_audit.specs.Owing.{AreLawful, waits_none}
use Rattle.gw_audit.specs.Settled.{is_idle}
use Rattle.gw_audit.specs.Turns.{TurnsAt, TurnsTo, is_even, CountsTo, Tracks}
use Rattle.gw_audit.proofs.Turning.{done}
use Rattle.gw_gate.specs.Headline.{CountFrom, IsTranslated}
use Rattle.gw_gate.specs.Lawful.{Lawful, empty, more, IsEvent, IsLawful}
use Rattle.gw_gate.proofs.Numbering.{counted, n_of, lawful_numbers}
use Rattle.gw_gate.proofs.Releasing.{NextOut, journal, next, some_is, unlimited}
use Rattle.gw_audit.specs.own.Joins.{PlansAt, is_swap, swaps_in}

-- ---- the first entries of a lawful journal

-- what an entry says of those before it
abbrev pub Comes : Start → List EntrySeen → EntrySeen → Type 0
Comes start h (WasAccepted n arrival c) = n ≡ start.acceptances + length (accepted h)
Comes start h (WasKept n t) = is_due h n t.receiver ≡ true
Comes start h (WasOut n r t) = NextOut h n r t
Comes start h e = ⊤

last : (start : Start) (h : List EntrySeen) (event : EventSeen) (e : EntrySeen) → IsEvent (IsTranslated Makes) event
    → added event (reply_to (journal start h) event) ≡ Some e → Comes start h e
last start h event (WasAccepted n arrival c) fact adds = (next Makes (journal start h) event (WasAccepted n arrival c) fact adds).counts
last start h event (WasKept n t) fact adds = added_due (journal start h) event (WasKept n t) adds
last start h event (WasOut n r t) fact adds = next Makes (journal start h) event (WasOut n r t) fact adds
last start h event e fact adds = tt

-- the first entries of a lawful journal are lawful
pub until : (start : Start) (h : List EntrySeen) → Lawful (IsTranslated Makes) start h → (k : ℕ) → Lawful (IsTranslated Makes) start (take k h)
until start h empty k = subst (Lawful (IsTranslated Makes) start) (sym (take_all k [] (omega arith))) empty
until start h (more g event e lawful fact adds) k = by (until start g lawful k) (cases_lt (length g) k)
  where
    by : Lawful (IsTranslated Makes) start (take k g) → (length g < k) ⊎ (k ≤ length g) → Lawful (IsTranslated Makes) start (take k (g ++ e ∷ []))
    by before (inl past) = subst (Lawful (IsTranslated Makes) start) (sym (take_all k (g ++ e ∷ []) (omega (arith, length-append g (e ∷ [])))))
        (more g event e lawful fact adds)
    by before (inr within) = subst (Lawful (IsTranslated Makes) start) (sym (take-append-le k g (e ∷ []) within)) before

-- the last entry
come : (start : Start) (l : List EntrySeen) → Lawful (IsTranslated Makes) start l → (h : List EntrySeen) (e : EntrySeen) → l ≡ h ++ e ∷ [] → Comes start h e
come start l empty h e is = absurd (let n = ap length is in omega (arith, n, length-append h (e ∷ [])))
come start l (more g event f lawful fact adds) h e is =
    let n = ap length is in
    let long : length g ≡ length h = omega (arith, n, length-append g (f ∷ []), length-append h (e ∷ [])) in
    let front : g ≡ h =
    sym (take-append-le (length g) g (f ∷ []) (omega arith) ∙ take_all (length g) g (omega arith)) ∙ ap (take (length g)) is
    ∙ take-append-le (length g) h (e ∷ []) (omega (arith, long)) ∙ take_all (length g) h (omega (arith, long)) in
    let same : f ≡ e = some_is f e (ap (λ x. slice_get x 0) (append_cancel_left h (f ∷ []) (e ∷ []) (ap (λ x. x ++ f ∷ []) (sym front) ∙ is))) in
    subst (λ x. Comes start x e) front (subst (Comes start g) same
    (last start g event f fact (unlimited most (journal start g) event (reply_to (journal start g) event) f adds)))

pub comes : (h : List EntrySeen) (lawful : AreLawful h) (k : ℕ) (e : EntrySeen) → take (k + 1) h ≡ take k h ++ e ∷ [] → Comes lawful.start (take k h) e
comes h lawful k e next = come lawful.start (take (k + 1) h) (until lawful.start h lawful.lawful (k + 1)) (take k h) e next

-- acceptances of the first entries count on
pub numbered : (h : List EntrySeen) (lawful : AreLawful h) (k : ℕ) → CountFrom lawful.start.acceptances (map n_of (accepted (take k h)))
numbered h lawful k = (counted Makes lawful.start (take k h) (until lawful.start h lawful.lawful k)).acceptances

pub seen_next : (entries : List Entry) (k : ℕ) (e : Entry) → k < length entries → e ≡ get_or entries k e
    → entries_seen (take (k + 1) entries) ≡ entries_seen (take k entries) ++ entry_seen e ∷ []
seen_next entries k e lt is = map_more entry_seen entries k e lt ∙ ap (λ x. entries_seen (take k entries) ++ entry_seen x ∷ []) (sym is)

pub entry_next : (entries : List Entry) (k : ℕ) (e : Entry) → k < length entries → e ≡ get_or entries k e
    → take (k + 1) (entries_seen entries) ≡ take k (entries_seen entries) ++ entry_seen e ∷ []
entry_next entries k e lt is =
    take-map entry_seen (k + 1) entries ∙ seen_next entries k e lt is ∙ ap (λ l. l ++ entry_seen e ∷ []) (sym (take-map entry_seen k entries))

-- ---- plans

swap_counts : (e : EntrySeen) → length (swapped (e ∷ [])) ≡ (if is_swap e then 1 else 0)
swap_counts (WasSwapped v p) = refl
swap_counts e = refl

pub swaps_next : (entries : List Entry) (k : ℕ) (e : Entry) (b : Bool) → k < length entries → e ≡ get_or entries k e → b ≡ is_swap (entry_seen e)
    → swaps_in (entries_seen entries) (k + 1) ≡ swaps_in (entries_seen entries) k + (if b then 1 else 0)
swaps_next entries k e b lt is by =
    let h = entries_seen entries in
    ap (λ l. length (swapped l)) (entry_next entries k e lt is)
    ∙ ap length (swapped-append (take k h) (entry_seen e ∷ []))
    ∙ length-append (swapped (take k h)) (swapped (entry_seen e ∷ []))
    ∙ ap (λ n. swaps_in h k + n) (swap_counts (entry_seen e) ∙ ap (λ x. if x then 1 else 0) (sym by))

pub plans_next : (s : Start) (entries : List Entry) (k : ℕ) (e : Entry) (old new : List PlanSeen) → k < length entries → e ≡ get_or entries k e
    → new ≡ old ++ map (λ v. v.plan) (swapped (entry_seen e ∷ [])) → old ≡ map (λ v. v.plan) (plans (journal_of s (entries_seen (take k entries))))
    → new ≡ map (λ v. v.plan) (plans (journal_of s (entries_seen (take (k + 1) entries))))
plans_next s entries k e old new lt is added was =
    let first : Version = record { number = s.version; plan = s.plan } in
    let plan : Version → PlanSeen = λ v. v.plan in
    added ∙ ap (λ l. l ++ map plan (swapped (entry_seen e ∷ []))) was
    ∙ sym (ap (λ l. map plan (first ∷ swapped l)) (seen_next entries k e lt is)
    ∙ ap (λ l. map plan (first ∷ l)) (swapped-append (entries_seen (take k entries)) (entry_seen e ∷ []))
    ∙ map-append plan (first ∷ swapped (entries_seen (take k entries))) (swapped (entry_seen e ∷ [])))

-- ---- pairs

pub one_job : (e : EntrySeen) → jobs (e ∷ []) ≤ 1
one_job (WasTaken n r) = omega arith
one_job e = omega arith

module _ (h : List EntrySeen) (k : ℕ) (e : EntrySeen) (next : take (k + 1) h ≡ take k h ++ e ∷ []) where
  pub issued_next : (all extra : ℕ) → all ≡ length (issued (take k h)) → extra ≡ length (issued (e ∷ [])) → all + extra ≡ length (issued (take (k + 1) h))
  issued_next all extra was is =
      let both = ap (λ l. length (issued l)) next ∙ ap length (issued-append (take k h) (e ∷ [])) in
      omega (arith, was, is, both, length-append (issued (take k h)) (issued (e ∷ [])))

  pub taken_next : (all extra : ℕ) → all ≡ jobs (take k h) → extra ≡ jobs (e ∷ []) → all + extra ≡ jobs (take (k + 1) h)
  taken_next all extra was is = let both = ap jobs next in omega (arith, was, is, both, jobs-append (take k h) (e ∷ []))

-- every pair was taken
pub idle_is : (h : List EntrySeen) → AreLawful h → (k all taken : ℕ) → all ≡ length (issued (take k h)) → taken ≡ jobs (take k h)
    → waits_none h k ≡ nat_le all taken
idle_is h lawful k all taken are is = by (cases_lt (jobs g) (length (issued g))) ∙ ap (λ n. nat_le n (jobs g)) (sym are) ∙ ap (nat_le all) (sym is)
  where
    g : List EntrySeen
    g = take k h

    by : (jobs (take k h) < length (issued (take k h))) ⊎ (length (issued (take k h)) ≤ jobs (take k h))
        → waits_none h k ≡ nat_le (length (issued (take k h))) (jobs (take k h))
    by (inl lt) =
        let p = get_or (issued g) (jobs g) (pair 0 0) in
        let at : slice_get (issued g) (jobs g) ≡ Some p = slice_get-get_or (issued g) (jobs g) (pair 0 0) lt in
        let due = all_at g (issued g) (jobs g) p (all_issued Makes lawful.start g (until lawful.start h lawful.lawful k)) at in
        let found = found_goes lawful.start.acceptances p.n p.receiver (accepted g) (numbered h lawful k) due in
        let some = lt-leb (length (issued g)) (jobs g) lt in
        ap (λ o. is_idle (job_of g o)) at ∙ ap (λ a. is_idle (job_with p a)) found.found ∙ sym some
    by (inr le) =
        let none = le-leb (length (issued g)) (jobs g) le in
        ap (λ o. is_idle (job_of g o)) (slice_get_past (issued g) (jobs g) le) ∙ sym none

pub idle_all : (h : List EntrySeen) (ats : List ℕ) → TurnsTo (waits_none h) (length h) ats → TurnsAt (waits_none h) ats
idle_all h ats was =
    done (λ k i. waits_none h k ≡ is_even i) (length h) ats was
    (λ k le is. ap (λ l. is_idle (job_of l (slice_get (issued l) (jobs l)))) (take_all k h le ∙ sym (take_all (length h) h (omega arith))) ∙ is)

-- ---- what is gathered of plans

abbrev number : Version → ℕ
number v = v.number

abbrev plan : Version → PlanSeen
plan v = v.plan

count_at : (first : ℕ) (xs : List Version) (i : ℕ) (v : Version) → CountFrom first (map number xs) → slice_get xs i ≡ Some v → v.number ≡ first + i
count_at first [] i v all is = absurd (none-some v is)
count_at first (x ∷ xs) zero v all is = let e = ap number (some_is x v is) in let f = all.0 in omega (arith, e, f)
count_at first (x ∷ xs) (suc i) v all is = let e = count_at (first + 1) xs i v all.1 is in omega (arith, e)

module _ (s : Start) (h : List EntrySeen) where
  pub current_at : (k : ℕ) → slice_get (plans (journal_of s h)) (swaps_in h k) ≡ Some (current (journal_of s (take k h)))
  current_at k =
      subst (λ l. slice_get (plans (journal_of s l)) (swaps_in h k) ≡ Some (current (journal_of s (take k h)))) (take-append-drop k h)
      (plan_stays s (take k h) (drop k h) (swaps_in h k) (current (journal_of s (take k h)))
      (last_stands (record { number = s.version; plan = s.plan }) (swapped (take k h))))

  pub tells_plans : IsLawful (IsTranslated Makes) (journal_of s h) → (swaps : List ℕ) (seen : List PlanSeen) → CountsTo (swaps_in h) (length h) swaps
      → seen ≡ map plan (plans (journal_of s h)) → PlansAt (journal_of s h) swaps seen
  tells_plans lawful swaps seen counts are =
      let at : Tracks (λ k i. swaps_in h k ≡ i) swaps =
      done (λ k i. swaps_in h k ≡ i) (length h) swaps counts
      (λ k le is. ap (λ l. length (swapped l)) (take_all k h le ∙ sym (take_all (length h) h (omega arith))) ∙ is) in
      let numbers = lawful_numbers Makes (journal_of s h) lawful in
      record {
        rising = at.rising;
        number = λ k i there.
            (let e = count_at s.version (plans (journal_of s h)) (swaps_in h k) (current (journal_of s (take k h))) numbers.plans (current_at k) in
            let i_is = at.tells k i there in omega (arith, e, i_is));
        plan = λ k i there.
            ap (λ l. slice_get l i) are ∙ slice_get-map plan (plans (journal_of s h)) i
            ∙ ap (λ n. option_map plan (slice_get (plans (journal_of s h)) n)) (sym (at.tells k i there)) ∙ ap (option_map plan) (current_at k);
      }
