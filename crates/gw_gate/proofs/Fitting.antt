-- Books that fit their journal.
use Rattle.std.proofs.Common.{◌≡◌, ◌≢◌, ℕ, ◌+◌, ◌<◌, ◌≤◌, true, List, [], ◌∷◌, ◌++◌, Some, ◌⊎◌, inl, inr, length, map, drop, refl, sym, ap, subst, ◌∙◌, arith, length-append}
use Rattle.gw_reorder.specs.State.{DeskState, SameButRoom}
use Rattle.gw_reorder.specs.Calls.{after_holding, next_of, after_giving}
use Rattle.std.proofs.lemmas.Bool.{cases_eq}
use Rattle.gw_gate.specs.Parts.{PlanSeen, ConformingSeen, TranslatedSeen}
use Rattle.gw_gate.specs.Journal.{EntrySeen, WasAccepted, WasRefused, WasSwapped, WasTaken, WasKept, WasIssued, WasOut, Pair, pair, Version, swapped, accepted, arrivals, issued, jobs, due, is_due, kept, released, current, last_of, Start}
use Rattle.gw_gate.specs.Replies.{most}
use Rattle.gw_gate.specs.own.Desks.{due_to}
use Rattle.gw_gate.specs.own.Books.{given, BooksSeen, journal_of, StandsAt, FitsPlan, FitsArrivals, FitsQueue, Fits}
use Rattle.gw_gate.proofs.Journals.{current-append}
use Rattle.gw_gate.proofs.Queue.{queue_more, queue_same, queue_accepted, queue_taken}
use Rattle.gw_gate.specs.declared.event.Entry.{Entry}
use Rattle.gw_gate.specs.Entries.{entry_seen, entries_seen}
use Rattle.gw_gate.proofs.Entering.{entered, as_long, arrivals-append}
use Rattle.gw_gate.proofs.Standing.{desk_same, desk_accepted, desk_kept, desk_kept_other, desk_out, desk_out_other, stands_same}

-- ---- what an entry leaves as it was

one_more : (h : List EntrySeen) (e : EntrySeen) → length (h ++ e ∷ []) ≡ length h + 1
one_more h e = length-append h (e ∷ [])

plans_same : (p : Start) (h : List EntrySeen) (e : EntrySeen) (v : ℕ) (now : PlanSeen) → swapped (e ∷ []) ≡ [] → FitsPlan p h v now → FitsPlan p (h ++ e ∷ []) v now
plans_same p h e v now none was =
    let same : current (journal_of p (h ++ e ∷ [])) ≡ current (journal_of p h) = current-append p h (e ∷ []) ∙ ap (last_of (current (journal_of p h))) none in
    record {
      version_is = was.version_is ∙ ap (λ x. x.number) (sym same);
      plan_is = was.plan_is ∙ ap (λ x. x.plan) (sym same);
      few = let f = was.few in omega (arith, one_more h e);
    }

arrivals_same : (p : Start) (h : List EntrySeen) (e : EntrySeen) (count : ℕ) → arrivals (e ∷ []) ≡ 0 → FitsArrivals p h count → FitsArrivals p (h ++ e ∷ []) count
arrivals_same p h e count none was = let c = was.count_is in let f = was.few in record { count_is = omega (arith, arrivals-append h (e ∷ [])); few = omega (arith, one_more h e) }

arrivals_more : (p : Start) (h : List EntrySeen) (e : EntrySeen) (count : ℕ) → arrivals (e ∷ []) ≡ 1 → FitsArrivals p h count → FitsArrivals p (h ++ e ∷ []) (count + 1)
arrivals_more p h e count one was = let c = was.count_is in let f = was.few in record { count_is = omega (arith, arrivals-append h (e ∷ [])); few = omega (arith, one_more h e) }

within_more : (h : List EntrySeen) (e : EntrySeen) → length h < most → length (h ++ e ∷ []) ≤ most
within_more h e room = omega (arith, one_more h e)

-- the program's journal has one entry more
pub fits_more : (p : Start) (items mid more : List Entry) (e : Entry) (b next : BooksSeen) → mid ≡ items → more ≡ mid ++ e ∷ [] → length items ≢ most → Fits p (entries_seen items) b
    → (length (entries_seen items) < most → Fits p (entries_seen items ++ entry_seen e ∷ []) next) → Fits p (entries_seen more) next
fits_more p items mid more e b next same is room was then =
    let w = was.within in
    subst (λ l. Fits p l next) (sym (entered items more e (is ∙ ap (λ l. l ++ e ∷ []) same))) (then (let l = as_long items in omega arith))

-- ---- each entry

pub fits_refused : (p : Start) (h : List EntrySeen) (b : BooksSeen) (arrival code : ℕ) → length h < most → Fits p h b → Fits p (h ++ WasRefused arrival code ∷ []) (record b { arrivals = b.arrivals + 1 })
fits_refused p h b arrival code room was =
    let e = WasRefused arrival code in
    record {
      starts = was.starts;
      plans = plans_same p h e b.version b.plan refl was.plans;
      arrivals = arrivals_more p h e b.arrivals refl was.arrivals;
      queue = queue_same p h e b.places b.queue refl refl refl was.queue;
      desks = λ r. desk_same h (e ∷ []) r (b.desk r) refl refl (λ n. refl) (was.desks r);
      within = within_more h e room;
    }

pub fits_swapped : (p : Start) (h : List EntrySeen) (b : BooksSeen) (v : ℕ) (q : PlanSeen) → v ≡ b.version + 1 → length h < most → Fits p h b → Fits p (h ++ WasSwapped v q ∷ []) (record b { version = v; plan = q })
fits_swapped p h b v q next room was =
    let e = WasSwapped v q in
    let new : Version = record { number = v; plan = q } in
    let last : current (journal_of p (h ++ e ∷ [])) ≡ new = current-append p h (e ∷ []) in
    let f = was.plans.few in
    record {
      starts = was.starts;
      plans = record { version_is = ap (λ x. x.number) (sym last); plan_is = ap (λ x. x.plan) (sym last); few = omega (arith, one_more h e) };
      arrivals = arrivals_same p h e b.arrivals refl was.arrivals;
      queue = queue_same p h e b.places b.queue refl refl refl was.queue;
      desks = λ r. desk_same h (e ∷ []) r (b.desk r) refl refl (λ n. refl) (was.desks r);
      within = within_more h e room;
    }

pub fits_taken : (p : Start) (h : List EntrySeen) (b : BooksSeen) (n r : ℕ) (queue : List Pair) → jobs h < length (issued h) → queue ≡ drop 1 b.queue → length h < most → Fits p h b → Fits p (h ++ WasTaken n r ∷ []) (record b { queue = queue })
fits_taken p h b n to queue left rest room was =
    let e = WasTaken n to in
    record {
      starts = was.starts;
      plans = plans_same p h e b.version b.plan refl was.plans;
      arrivals = arrivals_same p h e b.arrivals refl was.arrivals;
      queue = subst (FitsQueue p (h ++ e ∷ []) b.places) (sym rest) (queue_taken p h n to b.places b.queue left was.queue);
      desks = λ r. desk_same h (e ∷ []) r (b.desk r) refl refl (λ n. refl) (was.desks r);
      within = within_more h e room;
    }

pub fits_issued : (p : Start) (h : List EntrySeen) (b : BooksSeen) (n r : ℕ) → length h < most → Fits p h b → Fits p (h ++ WasIssued n r ∷ []) (record b { queue = b.queue ++ pair n r ∷ [] })
fits_issued p h b n to room was =
    let e = WasIssued n to in
    record {
      starts = was.starts;
      plans = plans_same p h e b.version b.plan refl was.plans;
      arrivals = arrivals_same p h e b.arrivals refl was.arrivals;
      queue = queue_more p h e b.places b.queue (pair n to ∷ []) refl refl refl was.queue;
      desks = λ r. desk_same h (e ∷ []) r (b.desk r) refl refl (λ n. refl) (was.desks r);
      within = within_more h e room;
    }

pub fits_accepted : (p : Start) (h : List EntrySeen) (b : BooksSeen) (n arrival : ℕ) (c : ConformingSeen) (desk : ℕ → DeskState TranslatedSeen) → n ≡ p.acceptances + length (accepted h) → ((r : ℕ) → desk r ≡ due_to c n r (b.desk r)) → length h < most
    → Fits p h b → Fits p (h ++ WasAccepted n arrival c ∷ []) (record b { arrivals = b.arrivals + 1; places = b.places ++ length h ∷ []; queue = b.queue ++ map (pair n) c.receivers; desk = desk })
fits_accepted p h b n arrival c desk is due room was =
    let e = WasAccepted n arrival c in
    record {
      starts = was.starts;
      plans = plans_same p h e b.version b.plan refl was.plans;
      arrivals = arrivals_more p h e b.arrivals refl was.arrivals;
      queue = queue_accepted p h n arrival c b.places b.queue is was.queue;
      desks = λ r. desk_accepted h p.acceptances n arrival r c (b.desk r) (desk r) was.queue.numbered is (due r) (was.desks r);
      within = within_more h e room;
    }

pub fits_kept : (p : Start) (h : List EntrySeen) (b : BooksSeen) (m r : ℕ) (t : TranslatedSeen) (desk : ℕ → DeskState TranslatedSeen) → t.receiver ≡ r → is_due h m r ≡ true → desk r ≡ after_holding (b.desk r) m t → ((q : ℕ) → q ≢ r → desk q ≡ b.desk q) → length h < most
    → Fits p h b → Fits p (h ++ WasKept m t ∷ []) (record b { desk = desk })
fits_kept p h b m r t desk to due this others room was =
    let e = WasKept m t in
    record {
      starts = was.starts;
      plans = plans_same p h e b.version b.plan refl was.plans;
      arrivals = arrivals_same p h e b.arrivals refl was.arrivals;
      queue = queue_same p h e b.places b.queue refl refl refl was.queue;
      desks = λ q. by q (cases_eq q r);
      within = within_more h e room;
    }
  where
    by : (q : ℕ) → (q ≡ r) ⊎ (q ≢ r) → StandsAt (h ++ WasKept m t ∷ []) q (desk q)
    by q (inl same) = subst (λ z. StandsAt (h ++ WasKept m t ∷ []) z (desk z)) (sym same) (desk_kept h p.acceptances m r t (b.desk r) (desk r) was.queue.numbered to due this (was.desks r))
    by q (inr other) = desk_kept_other h m q t (b.desk q) (desk q) (λ e. other (sym e ∙ to)) (others q other) (was.desks q)

pub fits_out : (p : Start) (h : List EntrySeen) (b : BooksSeen) (n r : ℕ) (t : TranslatedSeen) (desk : ℕ → DeskState TranslatedSeen) → next_of (b.desk r) ≡ Some (n, t) → SameButRoom (after_giving (b.desk r) (next_of (b.desk r))) (desk r) → ((q : ℕ) → q ≢ r → desk q ≡ b.desk q) → length h < most
    → Fits p h b → Fits p (h ++ WasOut n r t ∷ []) (record b { desk = desk })
fits_out p h b n r t desk next this others room was =
    let e = WasOut n r t in
    record {
      starts = was.starts;
      plans = plans_same p h e b.version b.plan refl was.plans;
      arrivals = arrivals_same p h e b.arrivals refl was.arrivals;
      queue = queue_same p h e b.places b.queue refl refl refl was.queue;
      desks = λ q. by q (cases_eq q r);
      within = within_more h e room;
    }
  where
    by : (q : ℕ) → (q ≡ r) ⊎ (q ≢ r) → StandsAt (h ++ WasOut n r t ∷ []) q (desk q)
    by q (inl same) = subst (λ z. StandsAt (h ++ WasOut n r t ∷ []) z (desk z)) (sym same) (desk_out h n r t (b.desk r) (desk r) next this (was.desks r))
    by q (inr other) = desk_out_other h n r q t (b.desk q) (desk q) (λ e. other (sym e)) (others q other) (was.desks q)

-- more room changes nothing
pub fits_roomier : (p : Start) (h : List EntrySeen) (b : BooksSeen) (desk : ℕ → DeskState TranslatedSeen) → ((r : ℕ) → SameButRoom (b.desk r) (desk r)) → Fits p h b → Fits p h (record b { desk = desk })
fits_roomier p h b desk same was = record {
  starts = was.starts;
  plans = was.plans;
  arrivals = was.arrivals;
  queue = was.queue;
  desks = λ r. stands_same (b.desk r) (desk r) (due h r) (map given (released h r)) (λ n. kept h n r) (same r) (was.desks r);
  within = was.within;
}
