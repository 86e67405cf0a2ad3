-- The places of the acceptances in a journal, and the pairs not yet taken.
use Rattle.std.proofs.Common.{◌≡◌, ◌≢◌, ◌==◌, ℕ, zero, suc, ◌+◌, ◌-◌, ◌<◌, ◌≤◌, List, [], ◌∷◌, ◌++◌, Option, None, Some, option_map, slice_get, length, map, drop, refl, sym, ap, subst, ◌∙◌, arith, append-nil, length-append}
use Rattle.std.specs.Option.{option_flatten}
use Rattle.std.specs.Prelude.{find, cond, not, nat_lt}
use Rattle.std.proofs.lemmas.Bool.Decides.{nat_tests}
use Rattle.std.proofs.lemmas.Grind.{common_steps}
use Rattle.std.proofs.lemmas.List.{map-append, length-map, length-drop, drop_more, drop-append-le}
use Rattle.std.proofs.lemmas.Option.{slice_get-map, slice_get_within, gets, none-some}
use Rattle.gw_gate.specs.Journal.{EntrySeen, WasAccepted, WasTaken, Acceptance, Pair, pair, Start, accepted, acceptance, issued, jobs}
use Rattle.gw_gate.specs.Parts.{ConformingSeen}
use Rattle.gw_gate.specs.Headline.{CountFrom}
use Rattle.gw_gate.specs.Replies.{Takes, IsJob, job_of, reply_to}
use Rattle.gw_gate.specs.own.Books.{FitsQueue, accepted_by, accepted_in, accepted_at, journal_of, under}
use Rattle.gw_gate.proofs.Journals.{accepted-append}
use Rattle.gw_gate.proofs.Entering.{jobs-append, issued-append}
use Rattle.gw_gate.proofs.Numbering.{n_of, count_last}
use Rattle.gw_reorder.proofs.Places.{equals, differs}

abbrev found : Acceptance → Option ConformingSeen
found a = Some a.conforming

-- ---- what a number leads to

-- what was accepted under a number stands at its place
pub found_from : (first k : ℕ) (xs : List Acceptance) → CountFrom first (map n_of xs) → find (λ a. a.n == (first + k)) xs ≡ option_map (under (first + k)) (slice_get (map (λ a. a.conforming) xs) k)
found_from first k [] all = refl
found_from first zero (x ∷ xs) all =
    let is : x.n ≡ first + 0 = omega (arith, all.0) in
    ap (λ b. cond b (Some x) (find (λ a. a.n == (first + 0)) xs)) (equals x.n (first + 0) is) ∙ ap (λ n. Some (under n x.conforming)) is
found_from first (suc k) (x ∷ xs) all =
    let other : x.n ≢ first + suc k = λ e. omega (arith, all.0, e) in
    let next : first + 1 + k ≡ first + suc k = omega arith in
    ap (λ b. cond b (Some x) (find (λ a. a.n == (first + suc k)) xs)) (differs x.n (first + suc k) other)
    ∙ subst (λ m. find (λ a. a.n == m) xs ≡ option_map (under m) (slice_get (map (λ a. a.conforming) xs) k)) next (found_from (first + 1) k xs all.1)

-- nothing was accepted under a number below the first
pub none_below : (first n : ℕ) (xs : List Acceptance) → CountFrom first (map n_of xs) → n < first → find (λ a. a.n == n) xs ≡ None
none_below first n [] all low = refl
none_below first n (x ∷ xs) all low =
    let other : x.n ≢ n = λ e. omega (arith, all.0, e, low) in
    ap (λ b. cond b (Some x) (find (λ a. a.n == n) xs)) (differs x.n n other) ∙ none_below (first + 1) n xs all.1 (omega (arith, low))

abbrev led : List EntrySeen → Option ℕ → Option ConformingSeen
led h place = option_flatten (option_map (accepted_at h) place)

led_is : (h : List EntrySeen) (xs : List Acceptance) (places : List ℕ) (k : ℕ) → map (accepted_at h) places ≡ map found xs → slice_get (map (λ a. a.conforming) xs) k ≡ led h (slice_get places k)
led_is h xs places k lead =
    slice_get-map (λ (a : Acceptance). a.conforming) xs k ∙ flat (slice_get xs k)
    ∙ ap option_flatten (sym (slice_get-map found xs k) ∙ ap (λ l. slice_get l k) (sym lead) ∙ slice_get-map (accepted_at h) places k)
  where
    flat : (o : Option Acceptance) → option_map (λ (a : Acceptance). a.conforming) o ≡ option_flatten (option_map found o)
    flat None = refl
    flat (Some a) = refl

module _ (p : Start) (h : List EntrySeen) (places : List ℕ) (queue : List Pair) (fits : FitsQueue p h places queue) where
  pub none_before : (n : ℕ) → n < p.acceptances → acceptance h n ≡ None
  none_before n low = none_below p.acceptances n (accepted h) fits.numbered low

  pub found_at : (n : ℕ) (place : Option ℕ) → p.acceptances ≤ n → slice_get places (n - p.acceptances) ≡ place → acceptance h n ≡ option_map (under n) (led h place)
  found_at n place high is =
      let same : p.acceptances + (n - p.acceptances) ≡ n = omega (arith, high) in
      subst (λ m. find (λ a. a.n == m) (accepted h) ≡ option_map (under m) (slice_get (map (λ a. a.conforming) (accepted h)) (n - p.acceptances))) same (found_from p.acceptances (n - p.acceptances) (accepted h) fits.numbered)
      ∙ ap (option_map (under n)) (led_is h (accepted h) places (n - p.acceptances) fits.lead ∙ ap (led h) is)

  pub as_many : length places ≡ length (accepted h)
  as_many = sym (length-map places (accepted_at h)) ∙ ap length fits.lead ∙ length-map (accepted h) found

  -- the reply to Take, by the first pair of the queue
  pub job_is : (o : Option Pair) → slice_get queue 0 ≡ o → reply_to (journal_of p h) Takes ≡ job_of h o
  job_is o is = ap (job_of h) (sym (first_left (issued h) (jobs h)) ∙ ap (λ l. slice_get l 0) (sym fits.queue_is) ∙ is)
    where
      first_left : (xs : List Pair) (k : ℕ) → slice_get (drop k xs) 0 ≡ slice_get xs k
      first_left [] zero = refl
      first_left [] (suc k) = refl
      first_left (x ∷ xs) zero = refl
      first_left (x ∷ xs) (suc k) = first_left xs k

-- ---- one entry more

-- an entry stays at its place
stays_at : (h g : List EntrySeen) (place : ℕ) (c : ConformingSeen) → accepted_at h place ≡ Some c → accepted_at (h ++ g) place ≡ Some c
stays_at [] g place c e = absurd (none-some c e)
stays_at (x ∷ h) g zero c e = e
stays_at (x ∷ h) g (suc place) c e = stays_at h g place c e

lead_on : (h g : List EntrySeen) (xs : List Acceptance) (places : List ℕ) → map (accepted_at h) places ≡ map found xs → map (accepted_at (h ++ g)) places ≡ map found xs
lead_on h g [] [] e = refl
lead_on h g (x ∷ xs) [] e = absurd (cc)
lead_on h g [] (place ∷ places) e = absurd (cc)
lead_on h g (x ∷ xs) (place ∷ places) e =
    let first : accepted_at h place ≡ found x = cc in
    let rest : map (accepted_at h) places ≡ map found xs = cc in
    let a = stays_at h g place x.conforming first in
    let b = lead_on h g xs places rest in
    λ i. a i ∷ b i

-- the place of the last entry leads to it
lead_last : (h : List EntrySeen) (e : EntrySeen) → accepted_at (h ++ e ∷ []) (length h) ≡ accepted_by e
lead_last h e = let there : slice_get (h ++ e ∷ []) (length h) ≡ Some e = grind (arith, common_steps, gets) in ap accepted_in there

-- what an entry issues comes last
left_more : (h : List EntrySeen) (e : EntrySeen) (queue more : List Pair) → issued (e ∷ []) ≡ more → jobs (e ∷ []) ≡ 0 → jobs h ≤ length (issued h) → queue ≡ drop (jobs h) (issued h) → queue ++ more ≡ drop (jobs (h ++ e ∷ [])) (issued (h ++ e ∷ []))
left_more h e queue more is none taken left =
    let same : jobs h ≡ jobs (h ++ e ∷ []) = omega (arith, jobs-append h (e ∷ []), none) in
    ap (λ l. l ++ more) left ∙ sym (drop-append-le (jobs h) (issued h) more taken) ∙ ap (λ l. drop (jobs h) (issued h ++ l)) (sym is)
    ∙ ap (drop (jobs h)) (sym (issued-append h (e ∷ []))) ∙ ap (λ k. drop k (issued (h ++ e ∷ []))) same

taken_few : (h : List EntrySeen) (e : EntrySeen) → jobs (e ∷ []) ≡ 0 → jobs h ≤ length (issued h) → jobs (h ++ e ∷ []) ≤ length (issued (h ++ e ∷ []))
taken_few h e none few = let l = ap length (issued-append h (e ∷ [])) in omega (arith, l, length-append (issued h) (issued (e ∷ [])), jobs-append h (e ∷ []), none, few)

-- an entry that accepts nothing
pub queue_more : (p : Start) (h : List EntrySeen) (e : EntrySeen) (places : List ℕ) (queue more : List Pair) → accepted (e ∷ []) ≡ [] → issued (e ∷ []) ≡ more → jobs (e ∷ []) ≡ 0 → FitsQueue p h places queue
    → FitsQueue p (h ++ e ∷ []) places (queue ++ more)
queue_more p h e places queue more none is no_jobs was =
    let a : accepted (h ++ e ∷ []) ≡ accepted h = accepted-append h (e ∷ []) ∙ ap (λ l. accepted h ++ l) none ∙ append-nil (accepted h) in
    record {
      lead = lead_on h (e ∷ []) (accepted h) places was.lead ∙ ap (map found) (sym a);
      numbered = subst (λ l. CountFrom p.acceptances (map n_of l)) (sym a) was.numbered;
      queue_is = left_more h e queue more is no_jobs was.taken was.queue_is;
      taken = taken_few h e no_jobs was.taken;
    }

pub queue_same : (p : Start) (h : List EntrySeen) (e : EntrySeen) (places : List ℕ) (queue : List Pair) → accepted (e ∷ []) ≡ [] → issued (e ∷ []) ≡ [] → jobs (e ∷ []) ≡ 0 → FitsQueue p h places queue → FitsQueue p (h ++ e ∷ []) places queue
queue_same p h e places queue none is no_jobs was = subst (FitsQueue p (h ++ e ∷ []) places) (append-nil queue) (queue_more p h e places queue [] none is no_jobs was)

pub queue_accepted : (p : Start) (h : List EntrySeen) (n arrival : ℕ) (c : ConformingSeen) (places : List ℕ) (queue : List Pair) → n ≡ p.acceptances + length (accepted h) → FitsQueue p h places queue
    → FitsQueue p (h ++ WasAccepted n arrival c ∷ []) (places ++ length h ∷ []) (queue ++ map (pair n) c.receivers)
queue_accepted p h n arrival c places queue is was =
    let e = WasAccepted n arrival c in
    let a : accepted (h ++ e ∷ []) ≡ accepted h ++ under n c ∷ [] = accepted-append h (e ∷ []) in
    let m : map n_of (accepted (h ++ e ∷ [])) ≡ map n_of (accepted h) ++ n ∷ [] = ap (map n_of) a ∙ map-append n_of (accepted h) (under n c ∷ []) in
    let last = lead_last h e in
    record {
      lead =
          map-append (accepted_at (h ++ e ∷ [])) places (length h ∷ []) ∙ ap (λ l. l ++ accepted_at (h ++ e ∷ []) (length h) ∷ []) (lead_on h (e ∷ []) (accepted h) places was.lead)
          ∙ ap (λ o. map found (accepted h) ++ o ∷ []) last ∙ sym (ap (map found) a ∙ map-append found (accepted h) (under n c ∷ []));
      numbered = subst (CountFrom p.acceptances) (sym m) (count_last p.acceptances (map n_of (accepted h)) n (let l = length-map (accepted h) n_of in omega (arith, is, l)) was.numbered);
      queue_is = left_more h e queue (map (pair n) c.receivers) (append-nil (map (pair n) c.receivers)) refl was.taken was.queue_is;
      taken = taken_few h e refl was.taken;
    }

-- the first pair is taken
pub queue_taken : (p : Start) (h : List EntrySeen) (n r : ℕ) (places : List ℕ) (queue : List Pair) → jobs h < length (issued h) → FitsQueue p h places queue → FitsQueue p (h ++ WasTaken n r ∷ []) places (drop 1 queue)
queue_taken p h n r places queue left was =
    let e = WasTaken n r in
    let a : accepted (h ++ e ∷ []) ≡ accepted h = accepted-append h (e ∷ []) ∙ append-nil (accepted h) in
    let same : issued (h ++ e ∷ []) ≡ issued h = issued-append h (e ∷ []) ∙ append-nil (issued h) in
    let one : jobs h + 1 ≡ jobs (h ++ e ∷ []) = omega (arith, jobs-append h (e ∷ [])) in
    record {
      lead = lead_on h (e ∷ []) (accepted h) places was.lead ∙ ap (map found) (sym a);
      numbered = subst (λ l. CountFrom p.acceptances (map n_of l)) (sym a) was.numbered;
      queue_is = ap (drop 1) (was.queue_is ∙ drop_more (issued h) (jobs h) (pair 0 0) left) ∙ ap (drop (jobs h + 1)) (sym same) ∙ ap (λ k. drop k (issued (h ++ e ∷ []))) one;
      taken = let l = ap length same in omega (arith, l, one, left);
    }

-- a pair that is given wasn't taken
pub left_some : (p : Start) (h : List EntrySeen) (n r : ℕ) (c : ConformingSeen) → reply_to (journal_of p h) Takes ≡ IsJob n r c → jobs h < length (issued h)
left_some p h n r c row = by (slice_get (issued h) (jobs h)) refl row
  where
    by : (o : Option Pair) → slice_get (issued h) (jobs h) ≡ o → job_of h o ≡ IsJob n r c → jobs h < length (issued h)
    by None e idle = absurd (cc)
    by (Some next) e job = slice_get_within (issued h) (jobs h) next e

-- whether a pair is left
pub is_left : {X : Type 0} (p : Start) (h : List EntrySeen) (places : List ℕ) (view : X → Pair) (items : List X) (k : ℕ) → k ≡ length items → FitsQueue p h places (map view items) → not (k == 0) ≡ nat_lt (jobs h) (length (issued h))
is_left p h places view items k long fits =
    let left : k ≡ length (issued h) - jobs h = long ∙ sym (length-map items view) ∙ ap length fits.queue_is ∙ length-drop (jobs h) (issued h) in
    by k (jobs h) (length (issued h)) left fits.taken
  where
    by : (k j n : ℕ) → k ≡ n - j → j ≤ n → not (k == 0) ≡ nat_lt j n
    by k j n is few = grind (arith, nat_tests)
