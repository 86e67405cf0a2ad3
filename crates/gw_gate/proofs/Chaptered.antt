-- Chapters that follow one another, read as one journal.
use Rattle.std.proofs.Common.{◌≡◌, ◌≤◌, ◌<◌, ◌+◌, ℕ, zero, suc, List, [], ◌∷◌, ◌++◌, ◌==◌, Bool, true, false, Option, None, Some, length, map, slice_get, arith, ap, sym, subst, ◌∙◌, refl, append-nil, append_assoc, length-append}
use Rattle.std.specs.Prelude.{filter, find, cond, ◌||◌}
use Rattle.std.specs.List.{AllByRecursion, list_any}
use Rattle.std.proofs.lemmas.Grind.{common_steps}
use Rattle.std.proofs.lemmas.Option.{none-some}
use Rattle.std.proofs.lemmas.Bool.{false≢true}
use Rattle.std.proofs.lemmas.Bool.Decides.{nat_tests}
use Rattle.gw_gate.specs.Parts.{MessageSeen, TranslatedSeen, delivers}
use Rattle.gw_gate.specs.Journal.{EntrySeen, WasAccepted, WasRefused, WasSwapped, WasTaken, WasKept, WasIssued, WasOut, Start, Journal, Version, Acceptance, accepted, arrivals, due, acceptance, kept, released, current, next_number, start_after}
use Rattle.gw_gate.specs.Replies.{most, reply_to}
use Rattle.gw_gate.specs.Lawful.{Lawful, empty, more, IsLawful}
use Rattle.gw_gate.specs.Headline.{CountFrom, RiseFrom, VersionsRise, Numbered, InOrder, IsTranslated}
use Rattle.gw_gate.specs.Chapters.{awaits, some_await, is_pending, Follow, all_entries, joined}
use Rattle.gw_gate.proofs.Journals.{either, accepted-append, released-append, due-append, kept-append, acceptance-append, current-append}
use Rattle.gw_gate.proofs.Numbering.{n_of, rise_among, Counted, counted, count_step}
use Rattle.gw_gate.proofs.Releasing.{journal, Next, next, unlimited, Sound, sound, step_case, never_falls, version_of}

-- ---- numbers

-- what is found among acceptances that count on has a number of theirs
found_within : (first n : ℕ) (a : Acceptance) (xs : List Acceptance) → CountFrom first (map n_of xs) → find (λ x. x.n == n) xs ≡ Some a → (first ≤ n) × (n < first + length xs)
found_within first n a [] all is = absurd (none-some a is)
found_within first n a (x ∷ xs) all is =
    (elim (x.n == n) as (λ b. (x.n == n) ≡ b → cond b (Some x) (find (λ y. y.n == n) xs) ≡ Some a → (first ≤ n) × (n < first + length (x ∷ xs))) [
      | true ↦ λ same e.
          let eq : x.n ≡ n = grind (arith, common_steps) in
          let at = all.0 in (omega (arith, eq, at), omega (arith, eq, at))
      | false ↦ λ other e.
          let later = found_within (first + 1) n a xs all.1 e in
          let low = later.0 in let high = later.1 in (omega (arith, low), omega (arith, high))
    ]) refl is

rises_above : (low n k : ℕ) (ns : List ℕ) → RiseFrom low ns → slice_get ns k ≡ Some n → low ≤ n
rises_above low n k [] all is = absurd (none-some n is)
rises_above low n zero (m ∷ ns) all is = let same : m ≡ n = grind (arith, common_steps) in let at = all.0 in omega (arith, same, at)
rises_above low n (suc k) (m ∷ ns) all is = let later = rises_above (m + 1) n k ns all.1 is in let at = all.0 in omega (arith, later, at)

get_behind : (xs ys : List ℕ) (k : ℕ) → slice_get (xs ++ ys) (length xs + k) ≡ slice_get ys k
get_behind [] ys k = let e : 0 + k ≡ k = omega arith in ap (slice_get ys) e
get_behind (x ∷ xs) ys k = let e : length (x ∷ xs) + k ≡ suc (length xs + k) = omega arith in ap (slice_get (x ∷ xs ++ ys)) e ∙ get_behind xs ys k

arrivals-append : (g h : List EntrySeen) → arrivals (g ++ h) ≡ arrivals g + arrivals h
arrivals-append [] h = omega arith
arrivals-append (WasAccepted n arrival c ∷ g) h = let e = arrivals-append g h in omega (arith, e)
arrivals-append (WasRefused arrival code ∷ g) h = let e = arrivals-append g h in omega (arith, e)
arrivals-append (WasSwapped v p ∷ g) h = arrivals-append g h
arrivals-append (WasTaken n r ∷ g) h = arrivals-append g h
arrivals-append (WasKept n t ∷ g) h = arrivals-append g h
arrivals-append (WasIssued n r ∷ g) h = arrivals-append g h
arrivals-append (WasOut n r t ∷ g) h = arrivals-append g h

-- ---- all that was due was released

abbrev AllReleased : List EntrySeen → Type 0
AllReleased h = (r : ℕ) → length (released h r) ≡ length (due h r)

-- of both
all_released : (g h : List EntrySeen) → AllReleased g → AllReleased h → AllReleased (g ++ h)
all_released g h one two r =
    let a = one r in let b = two r in
    let o = ap length (released-append g h r) in let p = length-append (released g r) (released h r) in
    let d = ap length (due-append g h r) in let q = length-append (due g r) (due h r) in
    omega (arith, a, b, o, p, d, q)

-- a test that holds of none of the receivers doesn't hold of one of them
of_none : (test : ℕ → Bool) (r : ℕ) (rs : List ℕ) → list_any test rs ≡ false → list_any (λ to. to == r) rs ≡ true → test r ≡ false
of_none test r [] none is = absurd (false≢true is)
of_none test r (to ∷ rs) none is =
    (elim (to == r) as (λ b. (to == r) ≡ b → (b || list_any (λ x. x == r) rs) ≡ true → test r ≡ false) [
      | true ↦ λ same e.
          let eq : to ≡ r = grind (arith, common_steps) in
          subst (λ z. test z ≡ false) eq (first (test to) (list_any test rs) none)
      | false ↦ λ other e. of_none test r rs (later (test to) (list_any test rs) none) e
    ]) refl is
  where
    first : (a b : Bool) → (a || b) ≡ false → a ≡ false
    first false b e = refl
    first true b e = absurd (false≢true (sym e))

    later : (a b : Bool) → (a || b) ≡ false → b ≡ false
    later false b e = e
    later true b e = absurd (false≢true (sym e))

either_false : (a b : Bool) → (a || b) ≡ false → (a ≡ false) × (b ≡ false)
either_false false b e = (refl, e)
either_false true b e = absurd (false≢true (sym e))

-- where a message goes to the receiver, it is one of whom nothing waits
of_route : (test : ℕ → Bool) (r : ℕ) (xs : List Acceptance) → list_any (λ a. list_any test a.conforming.receivers) xs ≡ false → test r ≡ true → filter (λ a. delivers a.conforming r) xs ≡ []
of_route test r [] none is = refl
of_route test r (x ∷ xs) none is =
    let both = either_false (list_any test x.conforming.receivers) (list_any (λ a. list_any test a.conforming.receivers) xs) none in
    let rest = of_route test r xs both.1 is in
    (elim (delivers x.conforming r) as (λ b. delivers x.conforming r ≡ b → cond b (x ∷ filter (λ a. delivers a.conforming r) xs) (filter (λ a. delivers a.conforming r) xs) ≡ []) [
      | true ↦ λ goes. absurd (false≢true (sym (of_none test r x.conforming.receivers both.0 goes) ∙ is))
      | false ↦ λ other. rest
    ]) refl

-- where nothing is pending, all that was due was released
none_waits : (h : List EntrySeen) (r : ℕ) → some_await h ≡ false → length (released h r) ≤ length (due h r) → length (released h r) ≡ length (due h r)
none_waits h r none within =
    (elim (awaits h r) as (λ b. awaits h r ≡ b → length (released h r) ≡ length (due h r)) [
      | true ↦ λ is.
          let nothing : length (due h r) ≡ 0 = ap (λ (l : List Acceptance). length (map n_of l)) (of_route (awaits h) r (accepted h) none is) in
          omega (arith, nothing, within)
      | false ↦ λ is. let high : length (due h r) ≤ length (released h r) = grind (arith, nat_tests) in omega (arith, high, within)
    ]) refl

-- ---- a chapter behind others

module _ (Means : List ℕ → MessageSeen → ℕ → MessageSeen → Type 0) where
  record Told (start : Start) (h : List EntrySeen) : Type 0 where
    sound : Sound Means start h
    numbers : Counted start h

  told : (start : Start) (h : List EntrySeen) → Lawful (IsTranslated Means) start h → Told start h
  told start h lawful = record { sound = sound Means start h lawful; numbers = counted Means start h lawful }

  closed : (start : Start) (h : List EntrySeen) → is_pending (journal start h) ≡ false → Told start h → AllReleased h
  closed start h is all r =
      let pairs = either_false _ _ is in
      let waits = either_false _ _ pairs.0 in
      none_waits h r waits.1 (all.sound.order r).within

  module _ (start : Start) (g : List EntrySeen) where
    abbrev then : Start
    then = start_after (journal start g)

    current_over : (h : List EntrySeen) → current (journal start (g ++ h)) ≡ current (journal then h)
    current_over h = current-append start g h

    number_over : (h : List EntrySeen) → next_number (journal start (g ++ h)) ≡ next_number (journal then h)
    number_over h =
        let a = ap length (accepted-append g h) in let b = length-append (accepted g) (accepted h) in
        omega (arith, a, b)

    start_over : (h : List EntrySeen) → start_after (journal start (g ++ h)) ≡ start_after (journal then h)
    start_over h =
        let c = current_over h in
        let n = number_over h in
        let a : start.arrivals + arrivals (g ++ h) ≡ then.arrivals + arrivals h = let e = arrivals-append g h in omega (arith, e) in
        let l : start.entries + length (g ++ h) ≡ then.entries + length h = let e = length-append g h in omega (arith, e) in
        λ i. record { version = (c i).number; plan = (c i).plan; acceptances = n i; arrivals = a i; entries = l i }

    -- nothing of the chapters before has a number of this one
    not_before : (h : List EntrySeen) (n : ℕ) (o : Option Acceptance) → o ≡ acceptance g n → Counted start g → then.acceptances ≤ n → o ≡ None
    not_before h n None is was high = refl
    not_before h n (Some a) is was high =
        let low = (found_within start.acceptances n a (accepted g) was.acceptances (sym is)).1 in
        absurd (omega (arith, low, high))

    not_kept : (n r : ℕ) (o : Option TranslatedSeen) → o ≡ kept g n r → Told start g → then.acceptances ≤ n → o ≡ None
    not_kept n r None is was high = refl
    not_kept n r (Some t) is was high =
        let sent = was.sound.kept n r t (sym is) in
        let low = (found_within start.acceptances n sent.by (accepted g) was.numbers.acceptances sent.accepted).1 in
        absurd (omega (arith, low, high))

    next_over : (h : List EntrySeen) (e : EntrySeen) → Told start g → AllReleased g → Counted then h → Next Means (journal then h) e → Next Means (journal start (g ++ h)) e
    next_over h (WasAccepted n arrival c) was all numbers is = record {
      counts = is.counts ∙ sym (number_over h);
      number = is.number ∙ ap (λ (v : Version). v.number) (sym (current_over h));
      text = is.text ∙ ap (λ (v : Version). v.plan.text) (sym (current_over h));
      admitted = is.admitted;
    }
    next_over h (WasSwapped v p) was all numbers is = is ∙ ap (λ (w : Version). w.number + 1) (sym (current_over h))
    next_over h (WasKept n t) was all numbers is =
        let high = (found_within then.acceptances n is.by (accepted h) numbers.acceptances is.found).0 in
        let none = not_before h n (acceptance g n) refl was.numbers high in
        record {
          by = is.by;
          found = acceptance-append g h n ∙ ap (λ o. either o (acceptance h n)) none ∙ is.found;
          message = is.message;
          text = is.text;
          means = is.means;
        }
    next_over h (WasOut n r t) was all numbers is =
        let rising = rise_among (λ a. delivers a.conforming r) then.acceptances (accepted h) numbers.acceptances in
        let high = rises_above then.acceptances n (length (released h r)) (due h r) rising is.due in
        let none = not_kept n r (kept g n r) refl was high in
        let k : length (released (g ++ h) r) ≡ length (due g r) + length (released h r) =
        let a = all r in let o = ap length (released-append g h r) in let p = length-append (released g r) (released h r) in omega (arith, a, o, p) in
        record {
          due = ap (λ l. slice_get l (length (released (g ++ h) r))) (due-append g h r) ∙ ap (slice_get (due g r ++ due h r)) k ∙ get_behind (due g r) (due h r) (length (released h r)) ∙ is.due;
          kept = kept-append g h n r ∙ ap (λ o. either o (kept h n r)) none ∙ is.kept;
        }
    next_over h (WasRefused arrival code) was all numbers is = tt
    next_over h (WasTaken n r) was all numbers is = tt
    next_over h (WasIssued n r) was all numbers is = tt

    told_over : (h : List EntrySeen) → Told start g → AllReleased g → Lawful (IsTranslated Means) then h → Told start (g ++ h)
    told_over h was all empty = subst (Told start) (sym (append-nil g)) was
    told_over h was all (more f event e lawful fact adds) =
        let before = told_over f was all lawful in
        let one = next Means (journal then f) event e fact (unlimited most (journal then f) event (reply_to (journal then f) event) e adds) in
        let here = next_over f e was all (counted Means then f lawful) one in
        subst (Told start) (append_assoc g f (e ∷ []))
        (record { sound = step_case Means start (g ++ f) e here before.sound; numbers = count_step Means start (g ++ f) e here before.numbers })

  -- all chapters
  told_all : (start : Start) (g : List EntrySeen) (j : Journal) (others : List Journal) → Told start g → start_after (journal start g) ≡ start_after j → (AllReleased j.entries → AllReleased g)
      → IsLawful (IsTranslated Means) j → AllByRecursion (IsLawful (IsTranslated Means)) others → Follow j others → Told start (g ++ all_entries others)
  told_all start g j [] was same before lawful all follow = subst (Told start) (sym (append-nil g)) was
  told_all start g j (k ∷ others) was same before lawful all follow =
      let done = before (closed j.start j.entries follow.0 (told j.start j.entries lawful)) in
      let starts : k.start ≡ start_after (journal start g) = follow.1 ∙ sym same in
      let later : Lawful (IsTranslated Means) (start_after (journal start g)) k.entries = subst (λ s. Lawful (IsTranslated Means) s k.entries) starts all.0 in
      let more = told_over start g k.entries was done later in
      let end : start_after (journal start (g ++ k.entries)) ≡ start_after k = start_over start g k.entries ∙ ap (λ s. start_after (journal s k.entries)) (sym starts) in
      subst (Told start) (append_assoc g k.entries (all_entries others))
      (told_all start (g ++ k.entries) k others more end (λ here. all_released g k.entries done here) all.0 all.1 follow.2)

  told_joined : (first : Journal) (others : List Journal) → AllByRecursion (IsLawful (IsTranslated Means)) (first ∷ others) → Follow first others → Told first.start (first.entries ++ all_entries others)
  told_joined first others all follow = told_all first.start first.entries first others (told first.start first.entries all.0) refl (λ done. done) all.0 all.1 follow

  pub joined_in_order : (first : Journal) (others : List Journal) (r : ℕ) → AllByRecursion (IsLawful (IsTranslated Means)) (first ∷ others) → Follow first others → InOrder Means (joined first others) r
  joined_in_order first others r all follow = let s = (told_joined first others all follow).sound in record { order = (s.order r).first; each = s.sent r }

  pub joined_versions : (first : Journal) (others : List Journal) → AllByRecursion (IsLawful (IsTranslated Means)) (first ∷ others) → Follow first others → VersionsRise (joined first others)
  joined_versions first others all follow =
      never_falls first.start.version (map version_of (accepted (joined first others).entries)) (current (joined first others)).number (told_joined first others all follow).sound.rise

  pub joined_numbers : (first : Journal) (others : List Journal) → AllByRecursion (IsLawful (IsTranslated Means)) (first ∷ others) → Follow first others → Numbered (joined first others)
  joined_numbers first others all follow =
      let c = (told_joined first others all follow).numbers in
      record {
        accepted = c.acceptances;
        plans = (refl, c.versions);
        due = λ r. rise_among (λ a. delivers a.conforming r) first.start.acceptances (accepted (joined first others).entries) c.acceptances;
      }
