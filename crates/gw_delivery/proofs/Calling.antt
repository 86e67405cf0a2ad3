-- All calls over one journal, as runs.
use Rattle.std.proofs.Common.{◌≡◌, ◌⊎◌, inl, inr, ℕ, zero, suc, List, [], ◌∷◌, ◌++◌, map, length, drop, Some, slice_get, refl, ap, sym, ◌∙◌, subst}
use Rattle.std.proofs.lemmas.List.{append-nil}
use mathlib.Core.List.{IsPrefix}
use Rattle.gw_due.specs.Events.{Event}
use Rattle.gw_due.specs.Due.{Name, due, due_since, left, passed}
use Rattle.gw_due.specs.Lawful.{Lawful}
use Rattle.gw_due.specs.Runs.{Covers, IsRun, Runs, no_run, one_run}
use Rattle.gw_due.specs.Spelling.{Entry}
use Rattle.gw_due.proofs.Covering.{covering}
use Rattle.gw_due.proofs.Growing.{due_grows, ordered}
use Rattle.gw_journal.specs.declared.event.Event as happened
use Rattle.gw_journal.specs.Logs.{AreFaithful, log_in}
use Rattle.gw_journal.proofs.Logging.{log_later}
use Rattle.gw_ledger.specs.Backlogs.{Between}
use Rattle.gw_ledger.specs.Ledgers.{Spells, events_of}
use Rattle.gw_ledger.proofs.Ledging.{faithful_part, front_spelled, one_reading}
use Rattle.gw_ledger.proofs.Remaining.{parts, prefix_trans}
use Rattle.gw_delivery.specs.Calls.{Call, Calls, HasDone, no_call, one_call, places_of, puts_aside, sends}

module _ (before : List (List ℕ)) (receiver : ℕ) where
  pub later : (old new : List happened.Event) (calls : List Call) → Calls before receiver old calls new → IsPrefix old new
  later old _ _ (no_call _) = ([], append-nil old)
  later old new _ (one_call _ mid _ call others p is more) = prefix_trans old mid new p (later mid new others more)

  pub as_run : (old mid : List happened.Event) (call : Call) → IsPrefix old mid → HasDone before receiver call old mid
      → Between (λ was now. IsRun receiver was now (places_of call)) before old mid
  as_run old mid (sends places) p is = is
  as_run old mid (puts_aside place) p is = λ faithful these those spells later_spells.
      let cut = parts before old mid these those p spells later_spells in
      record {
        more = (events_of cut.rest, sym cut.is);
        taken = place ∷ [];
        done = is faithful these those spells later_spells;
        sends = inl refl;
      }

  runs_of : (old new : List happened.Event) (calls : List Call) → Calls before receiver old calls new → AreFaithful before new
      → (these those : List Entry) → Spells (log_in before old).records these → Spells (log_in before new).records those
      → Runs receiver (events_of these) (map places_of calls) (events_of those)
  runs_of old _ _ (no_call _) faithful these those spells later_spells =
      subst (λ es. Runs receiver (events_of these) [] (events_of es)) (one_reading (log_in before old).records these those spells later_spells) (no_run (events_of these))
  runs_of old new _ (one_call _ mid _ call others p is more) faithful these those spells later_spells =
      let q = later mid new others more in
      let l = log_later before mid new q in
      let cut = front_spelled (log_in before mid).records l.more those (subst (λ rs. Spells rs those) l.records later_spells) in
      one_run (events_of these) (events_of cut.front) (events_of those) (places_of call) (map places_of others)
      (as_run old mid call p is.done (faithful_part before mid new q faithful) these cut.front spells cut.spells)
      (runs_of mid new others more faithful cut.front those cut.spells later_spells)

  pub all_covered : (Routes : (names : List Name) (plan to bytes : List ℕ) → Type 0) (old new : List happened.Event) (calls : List Call)
      → Calls before receiver old calls new
      → Between (λ was now. Lawful Routes now → Covers (due_since receiver was now) (map places_of calls)) before old new
  all_covered Routes old new calls is faithful these those spells later_spells lawful =
      covering receiver (events_of these) (events_of those) (map places_of calls) (runs_of old new calls is faithful these those spells later_spells)
      (ordered Routes (events_of those) lawful receiver)

-- ---- a run, by the log of the next start

longer : (n : ℕ) (xs ys : List ℕ) (x : ℕ) → slice_get (drop n xs) 0 ≡ Some x → slice_get (drop n (xs ++ ys)) 0 ≡ Some x
longer zero [] ys x e = absurd (cc e)
longer zero (z ∷ xs) ys x e = e
longer (suc n) [] ys x e = absurd (cc e)
longer (suc n) (z ∷ xs) ys x e = longer n xs ys x e

pub stays_run : (r : ℕ) (old now next : List Event) (places : List ℕ) → IsRun r old now places → IsPrefix now next
    → (passed r next ≡ passed r now) ⊎ (passed r next ≡ passed r old ++ places) → IsRun r old next places
stays_run r old now next places run p (inr all) = record { more = prefix_trans old now next run.more p; taken = places; done = all; sends = inl refl }
stays_run r old now next places run p (inl same) = record {
  more = prefix_trans old now next run.more p;
  taken = run.taken;
  done = same ∙ run.done;
  sends = by run.sends;
} where
  still : (place : ℕ) → slice_get (left r now) 0 ≡ Some place → slice_get (left r next) 0 ≡ Some place
  still place first =
      let grows = due_grows r now p.0 in
      let whole : due r now ++ grows.0 ≡ due r next = grows.1 ∙ ap (due r) p.1 in
      ap (λ l. slice_get (drop (length l) (due r next)) 0) same ∙ ap (λ l. slice_get (drop (length (passed r now)) l) 0) (sym whole)
      ∙ longer (length (passed r now)) (due r now) grows.0 place first

  by : (places ≡ run.taken) ⊎ ((place : ℕ) × (slice_get (left r now) 0 ≡ Some place) × (places ≡ run.taken ++ place ∷ []))
      → (places ≡ run.taken) ⊎ ((place : ℕ) × (slice_get (left r next) 0 ≡ Some place) × (places ≡ run.taken ++ place ∷ []))
  by (inl is) = inl is
  by (inr (place, first, is)) = inr (place, still place first, is)
