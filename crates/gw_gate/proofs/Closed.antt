-- The books of an empty journal that goes on where another was closed.
use Rattle.std.proofs.Common.{◌≡◌, ◌+◌, ◌≤◌, ◌||◌, ℕ, Bool, true, false, List, [], ◌∷◌, None, Some, length, refl, sym, ap, subst, ◌∙◌, arith}
use Rattle.std.specs.Prelude.{nat_lt}
use Rattle.std.proofs.lemmas.List.Elements.{All-nil}
use Rattle.std.proofs.lemmas.Bool.{false≢true}
use Rattle.std.proofs.lemmas.Bool.Decides.{nat_tests}
use Rattle.gw_reorder.specs.State.{DeskState, SameButRoom, nothing_due}
use Rattle.gw_reorder.specs.own.Standing.{Stands}
use Rattle.gw_gate.specs.Parts.{PlanSeen, TranslatedSeen}
use Rattle.gw_gate.specs.Journal.{EntrySeen, WasAccepted, WasRefused, WasSwapped, WasTaken, WasKept, WasIssued, WasOut, Start, Journal, Pair, accepted, issued, jobs, start_after}
use Rattle.gw_gate.specs.Chapters.{CanStart, is_pending, most_in_all, some_await}
use Rattle.gw_gate.specs.own.Books.{BooksSeen, Fits, journal_of}
use Rattle.gw_gate.proofs.Queue.{as_many}
use Rattle.gw_gate.proofs.Standing.{stands_same}

-- there are no more acceptances than entries
pub accepted_few : (h : List EntrySeen) → length (accepted h) ≤ length h
accepted_few [] = omega arith
accepted_few (WasAccepted n arrival c ∷ h) = omega (arith, accepted_few h)
accepted_few (WasRefused arrival code ∷ h) = omega (arith, accepted_few h)
accepted_few (WasSwapped v p ∷ h) = omega (arith, accepted_few h)
accepted_few (WasTaken n r ∷ h) = omega (arith, accepted_few h)
accepted_few (WasKept n t ∷ h) = omega (arith, accepted_few h)
accepted_few (WasIssued n r ∷ h) = omega (arith, accepted_few h)
accepted_few (WasOut n r t ∷ h) = omega (arith, accepted_few h)

-- how many acceptances the books have
pub accepted_long : (p : Start) (h : List EntrySeen) (b : BooksSeen) → Fits p h b → length b.places ≡ length (accepted h)
accepted_long p h b was = as_many p h b.places b.queue was.queue

nothing_stands : Stands (nothing_due {T = TranslatedSeen}) [] [] (λ n. None)
nothing_stands = record {
  due_is = refl;
  places = refl;
  count = refl;
  slots = λ i lt. absurd (omega (arith, lt));
  past = λ i lt. absurd (omega (arith, lt));
  strangers = λ n none. refl;
  numbers = refl;
  values = All-nil (λ p. None ≡ Some p.1);
}

-- where the next journal starts, by the books of the one that was closed
abbrev pub next_start : Start → List EntrySeen → BooksSeen → Start
next_start p h b = record { version = b.version; plan = b.plan; acceptances = p.acceptances + length b.places; arrivals = b.arrivals; entries = p.entries + length h }

pub next_is : (p : Start) (h : List EntrySeen) (b : BooksSeen) → Fits p h b → next_start p h b ≡ start_after (journal_of p h)
next_is p h b was =
    let accepted : p.acceptances + length b.places ≡ p.acceptances + length (accepted h) = ap (λ k. p.acceptances + k) (accepted_long p h b was) in
    λ i. record { version = was.plans.version_is i; plan = was.plans.plan_is i; acceptances = accepted i; arrivals = was.arrivals.count_is i; entries = p.entries + length h }

-- the books of an empty journal, wherever it starts
pub opened_fits : (s : Start) (now : PlanSeen) (desk : ℕ → DeskState TranslatedSeen) → CanStart s → now ≡ s.plan → ((r : ℕ) → SameButRoom nothing_due (desk r))
    → Fits s [] (record { version = s.version; plan = now; arrivals = s.arrivals; places = []; queue = []; desk = desk })
opened_fits s now desk can plan same =
    let v = can.versions in
    let a = can.arrivals in
    record {
      starts = can;
      plans = record { version_is = refl; plan_is = plan; few = omega (arith, v) };
      arrivals = record { count_is = omega arith; few = omega (arith, a) };
      queue = record { lead = refl; numbered = record {}; queue_is = refl; taken = omega arith };
      desks = λ r. stands_same nothing_due (desk r) [] [] (λ n. None) (same r) nothing_stands;
      within = omega arith;
    }

pub cut_fits : (p : Start) (h : List EntrySeen) (b : BooksSeen) (desk : ℕ → DeskState TranslatedSeen) → Fits p h b → p.entries + length h ≤ most_in_all → ((r : ℕ) → SameButRoom nothing_due (desk r))
    → Fits (next_start p h b) [] (record b { places = []; queue = []; desk = desk })
cut_fits p h b desk was few same =
    let long = accepted_long p h b was in
    let less = accepted_few h in
    let before = was.starts.acceptances in
    opened_fits (next_start p h b) b.plan desk
    (record { versions = was.plans.few; acceptances = omega (arith, long, less, before); arrivals = was.arrivals.few; few = few }) refl same

-- few enough entries, where the test says so
pub few_enough : (k : ℕ) → nat_lt most_in_all k ≡ false → k ≤ most_in_all
few_enough k isnt = grind (arith, nat_tests)

last_false : (a b c : Bool) → (a || b || c) ≡ false → c ≡ false
last_false true b c e = absurd (false≢true (sym e))
last_false false true c e = absurd (false≢true (sym e))
last_false false false c e = e

-- where nothing is pending there are few enough entries
pub few_is : (p : Start) (h : List EntrySeen) (j : Journal) → journal_of p h ≡ j → is_pending j ≡ false → p.entries + length h ≤ most_in_all
few_is p h j view free =
    few_enough (p.entries + length h) (last_false (nat_lt (jobs h) (length (issued h))) (some_await h) (nat_lt most_in_all (p.entries + length h)) (ap is_pending view ∙ free))

-- the same books, as they lie in memory
pub closed_fits : (p : Start) (h : List EntrySeen) (b : BooksSeen) (desk : ℕ → DeskState TranslatedSeen) (s : Start) (g : List EntrySeen) (places : List ℕ) (queue : List Pair) → s ≡ next_start p h b → g ≡ [] → places ≡ [] → queue ≡ []
    → Fits p h b → p.entries + length h ≤ most_in_all → ((r : ℕ) → SameButRoom nothing_due (desk r)) → Fits s g (record b { places = places; queue = queue; desk = desk })
closed_fits p h b desk s g places queue start none no_places no_pairs was few same =
    subst (λ x. Fits x g (record b { places = places; queue = queue; desk = desk })) (sym start)
    (subst (λ l. Fits (next_start p h b) l (record b { places = places; queue = queue; desk = desk })) (sym none)
    (subst (λ l. Fits (next_start p h b) [] (record b { places = l; queue = queue; desk = desk })) (sym no_places)
    (subst (λ l. Fits (next_start p h b) [] (record b { places = []; queue = l; desk = desk })) (sym no_pairs)
    (cut_fits p h b desk was few same))))
