-- What holds of every lawful journal: what was released, and under which plan.
use Rattle.std.proofs.Common.{◌≡◌, ◌≤◌, ◌<◌, ◌+◌, ℕ, List, [], ◌∷◌, ◌++◌, ◌==◌, ◌&&◌, Bool, true, false, if◌then◌else◌, Option, None, Some, length, map, take, slice_get, arith, ap, sym, subst, ◌∙◌, refl, append-nil, length-append}
use Rattle.std.specs.Prelude.{⊤, is_some, not, bytes_eq, find, unwrap_or, nat_le}
use Rattle.std.specs.List.{AllByRecursion}
use Rattle.std.proofs.lemmas.List.{map-append, take-append-le}
use Rattle.std.proofs.lemmas.Grind.{common_steps}
use Rattle.std.proofs.lemmas.Option.{gets, none-some}
use Rattle.std.proofs.lemmas.Bool.{false≢true}
use Rattle.std.proofs.lemmas.Slice.Eq.{bytes_eq-Decides}
use Rattle.gw_gate.specs.Parts.{MessageSeen, PlanSeen, ConformingSeen, TranslatedSeen, is_under, same_message, same_receivers}
use Rattle.gw_gate.specs.Journal.{EntrySeen, WasAccepted, WasRefused, WasSwapped, WasTaken, WasKept, WasIssued, WasOut, Start, Journal, Version, Acceptance, Pair, Release, swapped, accepted, due, is_due, acceptance, issued, jobs, kept, released, plans, last_of, current, next_number, next_arrival}
use Rattle.gw_gate.specs.Replies.{EventSeen, Looks, Arrives, Refuses, Swaps, Takes, Puts, Reissues, Releases, Cuts, ReplySeen, IsAccepted, IsStale, IsSwapped, IsUnlike, IsKept, IsRepeat, IsStranger, IsIssued, IsDone, IsFull, job_with, job_of, is_of, is_stranger, is_kept, out_with, out_of, reply_to, added, most, limited}
use Rattle.gw_gate.specs.Lawful.{IsEvent, Lawful, empty, more, IsLawful}
use Rattle.gw_gate.specs.Headline.{NeverFall, VersionsRise, IsTranslated, IsSent, InOrder}
use Rattle.gw_gate.specs.Meaning.{Admits}
use Rattle.gw_gate.proofs.Sames.{and_both, message_decides}
use Rattle.gw_gate.proofs.Journals.{either, accepted-append, released-append, due-append, kept-append, acceptance-append, acceptance_stays, plan_stays, last_stands, current-append}

-- ---- lists

all_more : {X : Type 0} (P Q : X → Type 0) → ((x : X) → P x → Q x) → (xs : List X) → AllByRecursion P xs → AllByRecursion Q xs
all_more P Q f [] all = tt
all_more P Q f (x ∷ xs) all = (f x all.0, all_more P Q f xs all.1)

all_last : {X : Type 0} (P : X → Type 0) (xs : List X) (x : X) → AllByRecursion P xs → P x → AllByRecursion P (xs ++ x ∷ [])
all_last P [] x all p = (p, tt)
all_last P (y ∷ xs) x all p = (all.0, all_last P xs x all.1 p)

-- numbers that never fall from low, and end at high at most
abbrev pub rise_to : ℕ → List ℕ → ℕ → Type 0
rise_to low [] high = low ≤ high
rise_to low (n ∷ ns) high = (low ≤ n) × rise_to n ns high

rise_last : (low : ℕ) (ns : List ℕ) (high : ℕ) → rise_to low ns high → rise_to low (ns ++ high ∷ []) high
rise_last low [] high is = (is, omega arith)
rise_last low (n ∷ ns) high is = (is.0, rise_last n ns high is.1)

rise_further : (low : ℕ) (ns : List ℕ) (high : ℕ) → rise_to low ns high → rise_to low ns (high + 1)
rise_further low [] high is = omega arith
rise_further low (n ∷ ns) high is = (is.0, rise_further n ns high is.1)

pub never_falls : (low : ℕ) (ns : List ℕ) (high : ℕ) → rise_to low ns high → NeverFall low ns
never_falls low [] high is = tt
never_falls low (n ∷ ns) high is = (is.0, never_falls n ns high is.1)

-- ---- the order of what was released

abbrev numbers : List Release → List ℕ
numbers outs = map (λ out. out.n) outs

pub record OrderAt (h : List EntrySeen) (r : ℕ) : Type 0 where
  pub within : length (released h r) ≤ length (due h r)
  pub first : numbers (released h r) ≡ take (length (released h r)) (due h r)

-- entries that release nothing to r
order_more : (h g : List EntrySeen) (r : ℕ) → released g r ≡ [] → OrderAt h r → OrderAt (h ++ g) r
order_more h g r none was =
    let w = was.within in
    let o : released (h ++ g) r ≡ released h r = released-append h g r ∙ ap (λ l. released h r ++ l) none ∙ append-nil (released h r) in
    let d : due (h ++ g) r ≡ due h r ++ due g r = due-append h g r in
    record {
      within = let k = ap length o in let l = ap length d in omega (arith, length-append (due h r) (due g r), k, l);
      first =
          ap numbers o ∙ was.first ∙ sym (take-append-le (length (released h r)) (due h r) (due g r) w)
          ∙ ap (λ k. take k (due h r ++ due g r)) (sym (ap length o)) ∙ ap (take (length (released (h ++ g) r))) (sym d);
    }

pub take_next : (xs : List ℕ) (k n : ℕ) → slice_get xs k ≡ Some n → (k < length xs) × (take (k + 1) xs ≡ take k xs ++ n ∷ [])
take_next xs k n is = (grind (arith, common_steps, gets), grind (arith, common_steps, gets))

-- the next due number was released to r
order_out : (h : List EntrySeen) (n r : ℕ) (t : TranslatedSeen) → slice_get (due h r) (length (released h r)) ≡ Some n → OrderAt h r → OrderAt (h ++ WasOut n r t ∷ []) r
order_out h n r t is was =
    let out : Release = record { n = n; translated = t } in
    let next = take_next (due h r) (length (released h r)) n is in
    let one : released (WasOut n r t ∷ []) r ≡ out ∷ [] = grind (arith, common_steps) in
    let o : released (h ++ WasOut n r t ∷ []) r ≡ released h r ++ out ∷ [] = released-append h (WasOut n r t ∷ []) r ∙ ap (λ l. released h r ++ l) one in
    let c : length (released (h ++ WasOut n r t ∷ []) r) ≡ length (released h r) + 1 = let l = ap length o in omega (arith, l, length-append (released h r) (out ∷ [])) in
    let d : due (h ++ WasOut n r t ∷ []) r ≡ due h r = due-append h (WasOut n r t ∷ []) r ∙ append-nil (due h r) in
    record {
      within = let k = next.0 in let l = ap length d in omega (arith, c, k, l);
      first =
          ap numbers o ∙ map-append (λ x. x.n) (released h r) (out ∷ []) ∙ ap (λ l. l ++ n ∷ []) was.first ∙ sym next.1
          ∙ ap (λ k. take k (due h r)) (sym c) ∙ ap (take (length (released (h ++ WasOut n r t ∷ []) r))) (sym d);
    }

-- ---- what an entry that a reply adds has

abbrev pub journal : Start → List EntrySeen → Journal
journal start h = record { start = start; entries = h }

abbrev pub version_of : Acceptance → ℕ
version_of a = a.conforming.version

pub record NextAccepted (j : Journal) (n : ℕ) (c : ConformingSeen) : Type 0 where
  pub counts : n ≡ next_number j
  pub number : c.version ≡ (current j).number
  pub text : c.text ≡ (current j).plan.text
  pub admitted : Admits c

pub record NextOut (h : List EntrySeen) (n r : ℕ) (t : TranslatedSeen) : Type 0 where
  pub due : slice_get (due h r) (length (released h r)) ≡ Some n
  pub kept : kept h n r ≡ Some t

pub some_is : {X : Type 0} (x y : X) → Some x ≡ Some y → x ≡ y
some_is x y e = ap (λ o. unwrap_or o x) e

pub either_none : {X : Type 0} → (o : Option X) → either o None ≡ o
either_none None = refl
either_none (Some x) = refl

pub none_was : {X : Type 0} (o p q : Option X) (x : X) → q ≡ either o p → p ≡ None → q ≡ Some x → o ≡ Some x
none_was o p q x is none some = sym (either_none o) ∙ ap (either o) (sym none) ∙ sym is ∙ some

module _ (Means : List ℕ → MessageSeen → ℕ → MessageSeen → Type 0) where
  pub record NextKept (j : Journal) (n : ℕ) (t : TranslatedSeen) : Type 0 where
    pub by : Acceptance
    pub found : acceptance j.entries n ≡ Some by
    pub message : t.source.message ≡ by.conforming.message
    pub text : t.source.text ≡ by.conforming.text
    pub means : IsTranslated Means t

  -- the plan of the version under which a message was accepted
  pub record HasPlan (j : Journal) (a : Acceptance) : Type 0 where
    pub version : Version
    pub place : ℕ
    pub among : slice_get (plans j) place ≡ Some version
    pub number : a.conforming.version ≡ version.number
    pub text : a.conforming.text ≡ version.plan.text
    pub admitted : Admits a.conforming

  abbrev pub Next : Journal → EntrySeen → Type 0
  Next j (WasAccepted n arrival c) = NextAccepted j n c
  Next j (WasSwapped v p) = v ≡ (current j).number + 1
  Next j (WasKept n t) = NextKept j n t
  Next j (WasOut n r t) = NextOut j.entries n r t
  Next j e = ⊤

  pub record Sound (start : Start) (h : List EntrySeen) : Type 0 where
    pub order : (r : ℕ) → OrderAt h r
    pub sent : (r : ℕ) → AllByRecursion (IsSent Means (journal start h) r) (released h r)
    pub kept : (n r : ℕ) (t : TranslatedSeen) → kept h n r ≡ Some t → IsSent Means (journal start h) r (record { n = n; translated = t })
    pub planned : (n : ℕ) (a : Acceptance) → acceptance h n ≡ Some a → HasPlan (journal start h) a
    pub rise : rise_to start.version (map version_of (accepted h)) (current (journal start h)).number

  sent_stays : (start : Start) (g h : List EntrySeen) (r : ℕ) (out : Release) → IsSent Means (journal start g) r out → IsSent Means (journal start (g ++ h)) r out
  sent_stays start g h r out is = record {
    by = is.by;
    accepted = acceptance_stays g h out.n is.by is.accepted;
    version = is.version;
    place = is.place;
    among = plan_stays start g h is.place is.version is.among;
    number = is.number;
    text = is.text;
    admitted = is.admitted;
    means = is.means;
  }

  plan_has : (start : Start) (g h : List EntrySeen) (a : Acceptance) → HasPlan (journal start g) a → HasPlan (journal start (g ++ h)) a
  plan_has start g h a is = record {
    version = is.version;
    place = is.place;
    among = plan_stays start g h is.place is.version is.among;
    number = is.number;
    text = is.text;
    admitted = is.admitted;
  }

  sent_none : (start : Start) (h g : List EntrySeen) (r : ℕ) → released g r ≡ [] → AllByRecursion (IsSent Means (journal start h) r) (released h r)
      → AllByRecursion (IsSent Means (journal start (h ++ g)) r) (released (h ++ g) r)
  sent_none start h g r none was =
      let e : released (h ++ g) r ≡ released h r = released-append h g r ∙ ap (λ l. released h r ++ l) none ∙ append-nil (released h r) in
      subst (λ l. AllByRecursion (IsSent Means (journal start (h ++ g)) r) l) (sym e)
      (all_more (IsSent Means (journal start h) r) (IsSent Means (journal start (h ++ g)) r) (sent_stays start h g r) (released h r) was)

  sent_last : (start : Start) (h : List EntrySeen) (n r : ℕ) (t : TranslatedSeen) → IsSent Means (journal start h) r (record { n = n; translated = t })
      → AllByRecursion (IsSent Means (journal start h) r) (released h r)
      → AllByRecursion (IsSent Means (journal start (h ++ WasOut n r t ∷ [])) r) (released (h ++ WasOut n r t ∷ []) r)
  sent_last start h n r t is was =
      let g = WasOut n r t ∷ [] in
      let out : Release = record { n = n; translated = t } in
      let one : released g r ≡ out ∷ [] = grind (arith, common_steps) in
      let e : released (h ++ g) r ≡ released h r ++ out ∷ [] = released-append h g r ∙ ap (λ l. released h r ++ l) one in
      subst (λ l. AllByRecursion (IsSent Means (journal start (h ++ g)) r) l) (sym e)
      (all_last (IsSent Means (journal start (h ++ g)) r) (released h r) out
      (all_more (IsSent Means (journal start h) r) (IsSent Means (journal start (h ++ g)) r) (sent_stays start h g r) (released h r) was)
      (sent_stays start h g r out is))

  kept_none : (start : Start) (h g : List EntrySeen) → ((n r : ℕ) → kept g n r ≡ None) → Sound start h
      → (n r : ℕ) (t : TranslatedSeen) → kept (h ++ g) n r ≡ Some t → IsSent Means (journal start (h ++ g)) r (record { n = n; translated = t })
  kept_none start h g none was n r t is =
      sent_stays start h g r (record { n = n; translated = t })
      (was.kept n r t (none_was (kept h n r) (kept g n r) (kept (h ++ g) n r) t (kept-append h g n r) (none n r) is))

  planned_none : (start : Start) (h g : List EntrySeen) → accepted g ≡ [] → Sound start h
      → (n : ℕ) (a : Acceptance) → acceptance (h ++ g) n ≡ Some a → HasPlan (journal start (h ++ g)) a
  planned_none start h g none was n a is =
      plan_has start h g a
      (was.planned n a (none_was (acceptance h n) (acceptance g n) (acceptance (h ++ g) n) a (acceptance-append h g n) (ap (find (λ x. x.n == n)) none) is))

  rise_none : (start : Start) (h g : List EntrySeen) → accepted g ≡ [] → swapped g ≡ [] → Sound start h
      → rise_to start.version (map version_of (accepted (h ++ g))) (current (journal start (h ++ g))).number
  rise_none start h g none same was =
      let a : accepted (h ++ g) ≡ accepted h = accepted-append h g ∙ ap (λ l. accepted h ++ l) none ∙ append-nil (accepted h) in
      let c : current (journal start (h ++ g)) ≡ current (journal start h) = current-append start h g ∙ ap (last_of (current (journal start h))) same in
      subst (λ v. rise_to start.version (map version_of (accepted (h ++ g))) v.number) (sym c)
      (subst (λ l. rise_to start.version (map version_of l) (current (journal start h)).number) (sym a) was.rise)

  -- an entry of which nothing here speaks
  plain : (start : Start) (h : List EntrySeen) (e : EntrySeen) → accepted (e ∷ []) ≡ [] → swapped (e ∷ []) ≡ []
      → ((r : ℕ) → released (e ∷ []) r ≡ []) → ((n r : ℕ) → kept (e ∷ []) n r ≡ None) → Sound start h → Sound start (h ++ e ∷ [])
  plain start h e a s o k was = record {
    order = λ r. order_more h (e ∷ []) r (o r) (was.order r);
    sent = λ r. sent_none start h (e ∷ []) r (o r) (was.sent r);
    kept = kept_none start h (e ∷ []) k was;
    planned = planned_none start h (e ∷ []) a was;
    rise = rise_none start h (e ∷ []) a s was;
  }

  swap_case : (start : Start) (h : List EntrySeen) (v : ℕ) (p : PlanSeen) → v ≡ (current (journal start h)).number + 1 → Sound start h → Sound start (h ++ WasSwapped v p ∷ [])
  swap_case start h v p is was =
      let g = WasSwapped v p ∷ [] in
      let a : accepted (h ++ g) ≡ accepted h = accepted-append h g ∙ append-nil (accepted h) in
      let c : (current (journal start (h ++ g))).number ≡ (current (journal start h)).number + 1 = ap (λ x. x.number) (current-append start h g) ∙ is in
      record {
        order = λ r. order_more h g r refl (was.order r);
        sent = λ r. sent_none start h g r refl (was.sent r);
        kept = kept_none start h g (λ n r. refl) was;
        planned = planned_none start h g refl was;
        rise =
            subst (λ v. rise_to start.version (map version_of (accepted (h ++ g))) v) (sym c)
            (subst (λ l. rise_to start.version (map version_of l) ((current (journal start h)).number + 1)) (sym a)
            (rise_further start.version (map version_of (accepted h)) (current (journal start h)).number was.rise));
      }

  -- an acceptance found in the longer journal is the new one, or was found before
  planned_new : (start : Start) (h : List EntrySeen) (n : ℕ) (c : ConformingSeen) (g : List EntrySeen) → HasPlan (journal start h) (record { n = n; conforming = c }) → Sound start h
      → (k : ℕ) (b : Acceptance) (o : Option Acceptance) → o ≡ acceptance h k
      → either o (if n == k then Some (record { n = n; conforming = c }) else None) ≡ Some b → HasPlan (journal start (h ++ g)) b
  planned_new start h n c g plan was k b (Some x) is found = plan_has start h g b (was.planned k b (sym is ∙ found))
  planned_new start h n c g plan was k b None is found =
      let new : Acceptance = record { n = n; conforming = c } in
      (elim (n == k) as (λ t. (if t then Some new else None) ≡ Some b → HasPlan (journal start (h ++ g)) b) [
        | true ↦ λ e. plan_has start h g b (subst (HasPlan (journal start h)) (some_is new b e) plan)
        | false ↦ λ e. absurd (none-some b e)
      ]) found

  accept_case : (start : Start) (h : List EntrySeen) (n arrival : ℕ) (c : ConformingSeen) → NextAccepted (journal start h) n c → Sound start h → Sound start (h ++ WasAccepted n arrival c ∷ [])
  accept_case start h n arrival c is was =
      let g = WasAccepted n arrival c ∷ [] in
      let new : Acceptance = record { n = n; conforming = c } in
      let first : Version = record { number = start.version; plan = start.plan } in
      let plan : HasPlan (journal start h) new = record {
        version = current (journal start h);
        place = length (swapped h);
        among = last_stands first (swapped h);
        number = is.number;
        text = is.text;
        admitted = is.admitted;
      } in
      let a : accepted (h ++ g) ≡ accepted h ++ new ∷ [] = accepted-append h g in
      let same : current (journal start (h ++ g)) ≡ current (journal start h) = current-append start h g in
      let m : map version_of (accepted (h ++ g)) ≡ map version_of (accepted h) ++ (current (journal start h)).number ∷ [] =
      ap (map version_of) a ∙ map-append version_of (accepted h) (new ∷ []) ∙ ap (λ v. map version_of (accepted h) ++ v ∷ []) is.number in
      record {
        order = λ r. order_more h g r refl (was.order r);
        sent = λ r. sent_none start h g r refl (was.sent r);
        kept = kept_none start h g (λ n r. refl) was;
        planned = λ k b found. planned_new start h n c g plan was k b (acceptance h k) refl (sym (acceptance-append h g k) ∙ found);
        rise =
            subst (λ v. rise_to start.version (map version_of (accepted (h ++ g))) v.number) (sym same)
            (subst (λ l. rise_to start.version l (current (journal start h)).number) (sym m)
            (rise_last start.version (map version_of (accepted h)) (current (journal start h)).number was.rise));
      }

  out_order : (h : List EntrySeen) (n r : ℕ) (t : TranslatedSeen) → slice_get (due h r) (length (released h r)) ≡ Some n → (q : ℕ) (b : Bool) → (r == q) ≡ b → OrderAt h q
      → OrderAt (h ++ WasOut n r t ∷ []) q
  out_order h n r t is q true e was =
      let same : r ≡ q = grind (arith, common_steps) in
      subst (λ z. OrderAt h z → OrderAt (h ++ WasOut n r t ∷ []) z) same (order_out h n r t is) was
  out_order h n r t is q false e was =
      let out : Release = record { n = n; translated = t } in
      order_more h (WasOut n r t ∷ []) q (ap (λ b. if b then out ∷ [] else []) e) was

  out_sent : (start : Start) (h : List EntrySeen) (n r : ℕ) (t : TranslatedSeen) → IsSent Means (journal start h) r (record { n = n; translated = t }) → (q : ℕ) (b : Bool) → (r == q) ≡ b
      → AllByRecursion (IsSent Means (journal start h) q) (released h q) → AllByRecursion (IsSent Means (journal start (h ++ WasOut n r t ∷ [])) q) (released (h ++ WasOut n r t ∷ []) q)
  out_sent start h n r t is q true e was =
      let same : r ≡ q = grind (arith, common_steps) in
      subst (λ z. AllByRecursion (IsSent Means (journal start h) z) (released h z) → AllByRecursion (IsSent Means (journal start (h ++ WasOut n r t ∷ [])) z) (released (h ++ WasOut n r t ∷ []) z)) same
      (sent_last start h n r t is) was
  out_sent start h n r t is q false e was =
      let out : Release = record { n = n; translated = t } in
      sent_none start h (WasOut n r t ∷ []) q (ap (λ b. if b then out ∷ [] else []) e) was

  -- what is kept in the longer journal is the new one, or was kept before
  keep_new : (start : Start) (h : List EntrySeen) (m : ℕ) (u : TranslatedSeen) → IsSent Means (journal start h) u.receiver (record { n = m; translated = u }) → Sound start h
      → (n r : ℕ) (t : TranslatedSeen) (o : Option TranslatedSeen) → o ≡ kept h n r → either o (if (m == n) && (u.receiver == r) then Some u else None) ≡ Some t
      → IsSent Means (journal start (h ++ WasKept m u ∷ [])) r (record { n = n; translated = t })
  keep_new start h m u one was n r t (Some x) is found = sent_stays start h (WasKept m u ∷ []) r (record { n = n; translated = t }) (was.kept n r t (sym is ∙ found))
  keep_new start h m u one was n r t None is found =
      (elim ((m == n) && (u.receiver == r)) as (λ b. ((m == n) && (u.receiver == r)) ≡ b → (if b then Some u else None) ≡ Some t → IsSent Means (journal start (h ++ WasKept m u ∷ [])) r (record { n = n; translated = t })) [
        | true ↦ λ both e.
            let same : m ≡ n = grind (arith, common_steps) in
            let to : u.receiver ≡ r = grind (arith, common_steps) in
            let is_u : u ≡ t = some_is u t e in
            sent_stays start h (WasKept m u ∷ []) r (record { n = n; translated = t })
            (subst (λ z. IsSent Means (journal start h) r (record { n = n; translated = z })) is_u
            (subst (λ z. IsSent Means (journal start h) r (record { n = z; translated = u })) same
            (subst (λ z. IsSent Means (journal start h) z (record { n = m; translated = u })) to one)))
        | false ↦ λ both e. absurd (none-some t e)
      ]) refl found

  keep_case : (start : Start) (h : List EntrySeen) (m : ℕ) (u : TranslatedSeen) → NextKept (journal start h) m u → Sound start h → Sound start (h ++ WasKept m u ∷ [])
  keep_case start h m u is was =
      let g = WasKept m u ∷ [] in
      let plan = was.planned m is.by is.found in
      let one : IsSent Means (journal start h) u.receiver (record { n = m; translated = u }) = record {
        by = is.by;
        accepted = is.found;
        version = plan.version;
        place = plan.place;
        among = plan.among;
        number = plan.number;
        text = plan.text;
        admitted = plan.admitted;
        means = subst (λ x. Means x is.by.conforming.message u.receiver u.message) (is.text ∙ plan.text) (subst (λ x. Means u.source.text x u.receiver u.message) is.message is.means);
      } in
      record {
        order = λ r. order_more h g r refl (was.order r);
        sent = λ r. sent_none start h g r refl (was.sent r);
        kept = λ n r t found. keep_new start h m u one was n r t (kept h n r) refl (sym (kept-append h g n r) ∙ found);
        planned = planned_none start h g refl was;
        rise = rise_none start h g refl refl was;
      }

  out_case : (start : Start) (h : List EntrySeen) (n r : ℕ) (t : TranslatedSeen) → NextOut h n r t → Sound start h → Sound start (h ++ WasOut n r t ∷ [])
  out_case start h n r t is was =
      let g = WasOut n r t ∷ [] in
      record {
        order = λ q. out_order h n r t is.due q (r == q) refl (was.order q);
        sent = λ q. out_sent start h n r t (was.kept n r t is.kept) q (r == q) refl (was.sent q);
        kept = kept_none start h g (λ k q. refl) was;
        planned = planned_none start h g refl was;
        rise = rise_none start h g refl refl was;
      }

  pub step_case : (start : Start) (h : List EntrySeen) (e : EntrySeen) → Next (journal start h) e → Sound start h → Sound start (h ++ e ∷ [])
  step_case start h (WasAccepted n arrival c) is was = accept_case start h n arrival c is was
  step_case start h (WasSwapped v p) is was = swap_case start h v p is was
  step_case start h (WasKept n t) is was = keep_case start h n t is was
  step_case start h (WasOut n r t) is was = out_case start h n r t is was
  step_case start h (WasRefused arrival code) is was = plain start h (WasRefused arrival code) refl refl (λ r. refl) (λ n r. refl) was
  step_case start h (WasTaken n r) is was = plain start h (WasTaken n r) refl refl (λ r. refl) (λ n r. refl) was
  step_case start h (WasIssued n r) is was = plain start h (WasIssued n r) refl refl (λ r. refl) (λ n r. refl) was

-- ---- the entry that a reply adds

pub added_full : (event : EventSeen) → added event (IsFull event) ≡ None
added_full Looks = refl
added_full (Arrives c) = refl
added_full (Refuses code) = refl
added_full (Swaps p) = refl
added_full Takes = refl
added_full (Puts n t) = refl
added_full (Reissues n r) = refl
added_full (Releases r) = refl
added_full Cuts = refl

-- no reply to a cut adds an entry
pub added_cut : (given : ReplySeen) → added Cuts given ≡ None
added_cut given = refl

-- an entry is added only where there is room for it
pub unlimited : (limit : ℕ) (j : Journal) (event : EventSeen) (given : ReplySeen) (e : EntrySeen) → added event (limited limit j event given) ≡ Some e → added event given ≡ Some e
unlimited limit j event given e is =
    (elim (is_some (added event given) && nat_le limit (length j.entries)) as (λ b. added event (if b then IsFull event else given) ≡ Some e → added event given ≡ Some e)
    [ true ↦ λ x. absurd (none-some e (sym (added_full event) ∙ x)) | false ↦ λ x. x ]) is

under_is : (j : Journal) (c : ConformingSeen) → is_under c (current j).number (current j).plan ≡ true → Admits c → NextAccepted j (next_number j) c
under_is j c is admitted =
    let both = and_both (c.version == (current j).number) (bytes_eq c.text (current j).plan.text) is in
    let number = both.0 in
    record { counts = refl; number = grind (arith, common_steps, number); text = (bytes_eq-Decides c.text (current j).plan.text).0 both.1; admitted = admitted }

out_is : (h : List EntrySeen) (n r : ℕ) (o : Option TranslatedSeen) (e : EntrySeen) → o ≡ kept h n r → added (Releases r) (out_with n o) ≡ Some e
    → (t : TranslatedSeen) × (e ≡ WasOut n r t) × (kept h n r ≡ Some t)
out_is h n r None e is x = absurd (none-some e x)
out_is h n r (Some t) e is x = (t, sym (some_is (WasOut n r t) e x), sym is)

module _ (Means : List ℕ → MessageSeen → ℕ → MessageSeen → Type 0) where
  taken_is : (j : Journal) (p : Pair) (o : Option Acceptance) (e : EntrySeen) → added Takes (job_with p o) ≡ Some e → Next Means j e
  taken_is j p None e x = absurd (none-some e x)
  taken_is j p (Some a) e x = subst (Next Means j) (some_is (WasTaken p.n p.receiver) e x) tt

  took_is : (j : Journal) (o : Option Pair) (e : EntrySeen) → added Takes (job_of j.entries o) ≡ Some e → Next Means j e
  took_is j None e x = absurd (none-some e x)
  took_is j (Some p) e x = taken_is j p (acceptance j.entries p.n) e x

  released_is : (j : Journal) (r : ℕ) (o : Option ℕ) (e : EntrySeen) → o ≡ slice_get (due j.entries r) (length (released j.entries r)) → added (Releases r) (out_of j.entries r o) ≡ Some e → Next Means j e
  released_is j r None e is x = absurd (none-some e x)
  released_is j r (Some n) e is x =
      let out = out_is j.entries n r (kept j.entries n r) e refl x in
      subst (Next Means j) (sym out.1) (record { due = sym is; kept = out.2 })

  kept_of : (j : Journal) (n : ℕ) (t : TranslatedSeen) (o : Option Acceptance) → o ≡ acceptance j.entries n → IsTranslated Means t → is_of t o ≡ true → NextKept Means j n t
  kept_of j n t None is means same = absurd (false≢true same)
  kept_of j n t (Some a) is means same =
      let s = t.source in
      let c = a.conforming in
      let both = and_both (same_message s.message c.message && (s.version == c.version)) (bytes_eq s.text c.text) same in
      let rest = and_both (same_message s.message c.message) (s.version == c.version) both.0 in
      record {
        by = a;
        found = sym is;
        message = (message_decides s.message c.message).0 rest.0;
        text = (bytes_eq-Decides s.text c.text).0 both.1;
        means = means;
      }

  not_false : (b : Bool) → not b ≡ false → b ≡ true
  not_false true e = refl
  not_false false e = absurd (false≢true (sym e))

  put_is : (j : Journal) (n : ℕ) (t : TranslatedSeen) (e : EntrySeen) → IsTranslated Means t → is_stranger j.entries n t ≡ false
      → added (Puts n t) (if is_kept j.entries n t.receiver then IsRepeat t else IsKept) ≡ Some e → Next Means j e
  put_is j n t e means known x =
      let both = and_both (is_due j.entries n t.receiver) (is_of t (acceptance j.entries n)) (not_false _ known) in
      (elim (is_kept j.entries n t.receiver) as (λ b. added (Puts n t) (if b then IsRepeat t else IsKept) ≡ Some e → Next Means j e) [
        | true ↦ λ y. absurd (none-some e y)
        | false ↦ λ y. subst (Next Means j) (some_is (WasKept n t) e y) (kept_of j n t (acceptance j.entries n) refl means both.1)
      ]) x

  pub next : (j : Journal) (event : EventSeen) (e : EntrySeen) → IsEvent (IsTranslated Means) event → added event (reply_to j event) ≡ Some e → Next Means j e
  next j Looks e fact is = absurd (none-some e is)
  next j (Arrives c) e fact is =
      let v = (current j).number in
      let p = (current j).plan in
      (elim (is_under c v p) as (λ b. is_under c v p ≡ b → added (Arrives c) (if b then IsAccepted (next_number j) (next_arrival j) else IsStale v c) ≡ Some e → Next Means j e) [
        | true ↦ λ under x. subst (Next Means j) (some_is (WasAccepted (next_number j) (next_arrival j) c) e x) (under_is j c under fact)
        | false ↦ λ under x. absurd (none-some e x)
      ]) refl is
  next j (Refuses code) e fact is = subst (Next Means j) (some_is (WasRefused (next_arrival j) code) e is) tt
  next j (Swaps p) e fact is =
      let v = (current j).number + 1 in
      (elim (same_receivers p j.start.plan) as (λ b. added (Swaps p) (if b then IsSwapped v else IsUnlike p) ≡ Some e → Next Means j e) [
        | true ↦ λ x. subst (Next Means j) (some_is (WasSwapped v p) e x) refl
        | false ↦ λ x. absurd (none-some e x)
      ]) is
  next j Takes e fact is = took_is j (slice_get (issued j.entries) (jobs j.entries)) e is
  next j (Puts n t) e fact is =
      (elim (is_stranger j.entries n t) as (λ b. is_stranger j.entries n t ≡ b → added (Puts n t) (if b then IsStranger (Some t) else if is_kept j.entries n t.receiver then IsRepeat t else IsKept) ≡ Some e → Next Means j e) [
        | true ↦ λ known x. absurd (none-some e x)
        | false ↦ λ known x. put_is j n t e fact known x
      ]) refl is
  next j (Reissues n r) e fact is =
      (elim (not (is_due j.entries n r)) as (λ b. added (Reissues n r) (if b then IsStranger None else if is_kept j.entries n r then IsDone else IsIssued) ≡ Some e → Next Means j e) [
        | true ↦ λ x. absurd (none-some e x)
        | false ↦ elim (is_kept j.entries n r) as (λ b. added (Reissues n r) (if b then IsDone else IsIssued) ≡ Some e → Next Means j e) [
          | true ↦ λ x. absurd (none-some e x)
          | false ↦ λ x. subst (Next Means j) (some_is (WasIssued n r) e x) tt
        ]
      ]) is
  next j Cuts e fact is = absurd (none-some e (sym (added_cut (reply_to j Cuts)) ∙ is))
  next j (Releases r) e fact is = released_is j r (slice_get (due j.entries r) (length (released j.entries r))) e refl is

  pub sound : (start : Start) (h : List EntrySeen) → Lawful (IsTranslated Means) start h → Sound Means start h
  sound start h empty = record {
    order = λ r. record { within = omega arith; first = refl };
    sent = λ r. tt;
    kept = λ n r t x. absurd (none-some t x);
    planned = λ n a x. absurd (none-some a x);
    rise = omega arith;
  }
  sound start h (more g event e lawful fact adds) =
      step_case Means start g e
      (next (journal start g) event e fact (unlimited most (journal start g) event (reply_to (journal start g) event) e adds))
      (sound start g lawful)

  pub lawful_in_order : (j : Journal) (r : ℕ) → IsLawful (IsTranslated Means) j → InOrder Means j r
  lawful_in_order j r lawful = let s = sound j.start j.entries lawful in record { order = (s.order r).first; each = s.sent r }

  pub lawful_versions : (j : Journal) → IsLawful (IsTranslated Means) j → VersionsRise j
  lawful_versions j lawful =
      never_falls j.start.version (map version_of (accepted j.entries)) (current j).number (sound j.start j.entries lawful).rise
