-- How acceptances and plans are numbered.
use Rattle.std.proofs.Common.{◌≡◌, ◌≤◌, ◌+◌, ℕ, List, [], ◌∷◌, ◌++◌, Bool, true, false, length, map, arith, ap, sym, subst, ◌∙◌, refl, append-nil, length-append}
use Rattle.std.specs.Prelude.{filter, cond}
use Rattle.std.proofs.lemmas.List.{map-append, length-map}
use Rattle.gw_gate.specs.Parts.{MessageSeen, PlanSeen, ConformingSeen, delivers}
use Rattle.gw_gate.specs.Journal.{EntrySeen, WasAccepted, WasRefused, WasSwapped, WasTaken, WasKept, WasIssued, WasOut, Start, Journal, Version, Acceptance, swapped, accepted, current, next_number, last_of}
use Rattle.gw_gate.specs.Replies.{most, reply_to}
use Rattle.gw_gate.specs.Lawful.{Lawful, empty, more, IsLawful}
use Rattle.gw_gate.specs.Headline.{CountFrom, RiseFrom, Numbered, IsTranslated}
use Rattle.gw_gate.proofs.Journals.{swapped-append, accepted-append, current-append}
use Rattle.gw_gate.proofs.Releasing.{journal, Next, next, unlimited}

abbrev pub n_of : Acceptance → ℕ
n_of a = a.n

abbrev number_of : Version → ℕ
number_of v = v.number

pub count_last : (first : ℕ) (ns : List ℕ) (n : ℕ) → n ≡ first + length ns → CountFrom first ns → CountFrom first (ns ++ n ∷ [])
count_last first [] n is all = (omega (arith, is), tt)
count_last first (m ∷ ns) n is all = (all.0, count_last (first + 1) ns n (omega (arith, is)) all.1)

rise_lower : (low high : ℕ) (ns : List ℕ) → low ≤ high → RiseFrom high ns → RiseFrom low ns
rise_lower low high [] under all = tt
rise_lower low high (n ∷ ns) under all = (let a = all.0 in omega (arith, a), all.1)

-- numbers that count on, of those that pass a test
pub rise_among : (test : Acceptance → Bool) (first : ℕ) (xs : List Acceptance) → CountFrom first (map n_of xs) → RiseFrom first (map n_of (filter test xs))
rise_among test first [] all = tt
rise_among test first (x ∷ xs) all =
    let is = all.0 in
    let later = rise_among test (first + 1) xs all.1 in
    elim (test x) as (λ b. RiseFrom first (map n_of (cond b (x ∷ filter test xs) (filter test xs)))) [
      | true ↦ (omega (arith, is), subst (λ k. RiseFrom (k + 1) (map n_of (filter test xs))) (sym is) later)
      | false ↦ rise_lower first (first + 1) (map n_of (filter test xs)) (omega arith) later
    ]

pub record Counted (start : Start) (h : List EntrySeen) : Type 0 where
  pub acceptances : CountFrom start.acceptances (map n_of (accepted h))
  pub versions : CountFrom (start.version + 1) (map number_of (swapped h))
  pub latest : (current (journal start h)).number ≡ start.version + length (swapped h)

-- an entry that accepts nothing and swaps nothing
count_plain : (start : Start) (h : List EntrySeen) (e : EntrySeen) → accepted (e ∷ []) ≡ [] → swapped (e ∷ []) ≡ [] → Counted start h → Counted start (h ++ e ∷ [])
count_plain start h e none same was =
    let a : accepted (h ++ e ∷ []) ≡ accepted h = accepted-append h (e ∷ []) ∙ ap (λ l. accepted h ++ l) none ∙ append-nil (accepted h) in
    let s : swapped (h ++ e ∷ []) ≡ swapped h = swapped-append h (e ∷ []) ∙ ap (λ l. swapped h ++ l) same ∙ append-nil (swapped h) in
    let first : Version = record { number = start.version; plan = start.plan } in
    record {
      acceptances = subst (λ l. CountFrom start.acceptances (map n_of l)) (sym a) was.acceptances;
      versions = subst (λ l. CountFrom (start.version + 1) (map number_of l)) (sym s) was.versions;
      latest = ap (λ l. (last_of first l).number) s ∙ was.latest ∙ ap (λ l. start.version + length l) (sym s);
    }

count_accepted : (start : Start) (h : List EntrySeen) (n arrival : ℕ) (c : ConformingSeen) → n ≡ next_number (journal start h) → Counted start h → Counted start (h ++ WasAccepted n arrival c ∷ [])
count_accepted start h n arrival c is was =
    let e = WasAccepted n arrival c in
    let new : Acceptance = record { n = n; conforming = c } in
    let m : map n_of (accepted (h ++ e ∷ [])) ≡ map n_of (accepted h) ++ n ∷ [] = ap (map n_of) (accepted-append h (e ∷ [])) ∙ map-append n_of (accepted h) (new ∷ []) in
    let s : swapped (h ++ e ∷ []) ≡ swapped h = swapped-append h (e ∷ []) ∙ append-nil (swapped h) in
    let first : Version = record { number = start.version; plan = start.plan } in
    let l = length-map (accepted h) n_of in
    record {
      acceptances = subst (CountFrom start.acceptances) (sym m) (count_last start.acceptances (map n_of (accepted h)) n (omega (arith, is, l)) was.acceptances);
      versions = subst (λ l. CountFrom (start.version + 1) (map number_of l)) (sym s) was.versions;
      latest = ap (λ l. (last_of first l).number) s ∙ was.latest ∙ ap (λ l. start.version + length l) (sym s);
    }

count_swapped : (start : Start) (h : List EntrySeen) (v : ℕ) (p : PlanSeen) → v ≡ (current (journal start h)).number + 1 → Counted start h → Counted start (h ++ WasSwapped v p ∷ [])
count_swapped start h v p is was =
    let e = WasSwapped v p in
    let new : Version = record { number = v; plan = p } in
    let a : accepted (h ++ e ∷ []) ≡ accepted h = accepted-append h (e ∷ []) ∙ append-nil (accepted h) in
    let s : swapped (h ++ e ∷ []) ≡ swapped h ++ new ∷ [] = swapped-append h (e ∷ []) in
    let m : map number_of (swapped (h ++ e ∷ [])) ≡ map number_of (swapped h) ++ v ∷ [] = ap (map number_of) s ∙ map-append number_of (swapped h) (new ∷ []) in
    let l = length-map (swapped h) number_of in
    let k = ap length s in
    let two = length-append (swapped h) (new ∷ []) in
    let now = was.latest in
    record {
      acceptances = subst (λ l. CountFrom start.acceptances (map n_of l)) (sym a) was.acceptances;
      versions = subst (CountFrom (start.version + 1)) (sym m) (count_last (start.version + 1) (map number_of (swapped h)) v (omega (arith, is, l, now)) was.versions);
      latest = ap (λ x. x.number) (current-append start h (e ∷ [])) ∙ (let last : v ≡ start.version + length (swapped (h ++ e ∷ [])) = omega (arith, is, now, k, two) in last);
    }

module _ (Means : List ℕ → MessageSeen → ℕ → MessageSeen → Type 0) where
  pub count_step : (start : Start) (h : List EntrySeen) (e : EntrySeen) → Next Means (journal start h) e → Counted start h → Counted start (h ++ e ∷ [])
  count_step start h (WasAccepted n arrival c) is was = count_accepted start h n arrival c is.counts was
  count_step start h (WasSwapped v p) is was = count_swapped start h v p is was
  count_step start h (WasKept n t) is was = count_plain start h (WasKept n t) refl refl was
  count_step start h (WasOut n r t) is was = count_plain start h (WasOut n r t) refl refl was
  count_step start h (WasRefused arrival code) is was = count_plain start h (WasRefused arrival code) refl refl was
  count_step start h (WasTaken n r) is was = count_plain start h (WasTaken n r) refl refl was
  count_step start h (WasIssued n r) is was = count_plain start h (WasIssued n r) refl refl was

  pub counted : (start : Start) (h : List EntrySeen) → Lawful (IsTranslated Means) start h → Counted start h
  counted start h empty = record { acceptances = tt; versions = tt; latest = omega arith }
  counted start h (more g event e lawful fact adds) =
      count_step start g e
      (next Means (journal start g) event e fact (unlimited most (journal start g) event (reply_to (journal start g) event) e adds))
      (counted start g lawful)

  pub lawful_numbers : (j : Journal) → IsLawful (IsTranslated Means) j → Numbered j
  lawful_numbers j lawful =
      let all = counted j.start j.entries lawful in
      record {
        accepted = all.acceptances;
        plans = (refl, all.versions);
        due = λ r. rise_among (λ a. delivers a.conforming r) j.start.acceptances (accepted j.entries) all.acceptances;
      }
