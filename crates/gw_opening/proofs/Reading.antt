-- What a start reads of a folder that is a log.
use Rattle.std.proofs.Common.{◌≡◌, inl, inr, ℕ, List, [], ◌∷◌, ◌++◌, map, refl, ap, sym, ◌∙◌, subst, arith}
use Rattle.std.specs.List.{AllByRecursion, fold}
use Rattle.std.proofs.lemmas.List.{map-append, nil_from_length}
use Rattle.std.proofs.lemmas.List.Sums.{fold-append}
use mathlib.Core.List.{IsPrefix}
use Rattle.gw_due.specs.Due.{Name}
use Rattle.gw_due.specs.Lawful.{Lawful}
use Rattle.gw_due.specs.Checkpoint.{checkpoint, StateFits}
use Rattle.gw_due.specs.Spelling.{Entry, Fits, spelled}
use Rattle.gw_due.specs.Starting.{LeadsTo, none, more, Starts}
use Rattle.gw_due.specs.State.{State, after, nothing, state_of}
use Rattle.gw_due.proofs.StateForms.{one_state}
use Rattle.gw_journal.specs.Stored.{EndsWith, IsKept, LastState, TellsLast}
use Rattle.gw_log.specs.Disk.{Files}
use Rattle.gw_ledger.specs.Ledgers.{IsCheckpoint, Spares, Spells, Tells, events_of}
use Rattle.gw_ledger.proofs.Ledging.{fits_more, front_spelled, left_lawful, next_from, one_reading}
use Rattle.gw_opening.specs.Folders.{IsFoundAgain}
use Rattle.gw_opening.specs.own.Alike.{IsStateBy, IsStateIn}

-- ---- entries of the records that lead from the one state to the other

record Led (first : State) (records : List (List ℕ)) (s : State) : Type 0 where
  entries : List Entry
  spells : Spells records entries
  is : s ≡ fold after first (events_of entries)

led : (first : State) (records : List (List ℕ)) (s : State) → LeadsTo first records s → Led first records s
led first [] s none = record { entries = []; spells = record { are = refl; fit = tt }; is = refl }
led first all t (more records s e on fits allowed) =
    let before = led first records s on in record {
      entries = before.entries ++ e ∷ [];
      spells = record {
        are = ap (λ l. l ++ spelled e ∷ []) before.spells.are ∙ sym (map-append spelled before.entries (e ∷ []));
        fit = fits_more before.entries e before.spells.fit fits;
      };
      is = ap (λ t. after t e.event) before.is ∙ sym (fold-append after first (events_of before.entries) (e.event ∷ []))
          ∙ ap (fold after first) (sym (map-append (λ (e : Entry). e.event) before.entries (e ∷ [])));
    }

-- ---- the state of a log, by its last file

spells_all : (these those : List (List ℕ)) (a b : List Entry) → Spells these a → Spells those b → Spells (these ++ those) (a ++ b)
spells_all these those a b p q = record {
  are = ap (λ l. l ++ those) p.are ∙ ap (λ l. map spelled a ++ l) q.are ∙ sym (map-append spelled a b);
  fit = both a b p.fit q.fit;
}
  where
    both : (a b : List Entry) → AllByRecursion Fits a → AllByRecursion Fits b → AllByRecursion Fits (a ++ b)
    both [] b all rest = rest
    both (e ∷ a) b all rest = (all.0, both a b all.1 rest)

pub first_is : (entries : List Entry) (last : LastState) (first : State) → AllByRecursion Fits entries → EndsWith Tells (map spelled entries) last
    → Starts last.checkpoint last.records first → first ≡ state_of (events_of entries)
first_is entries last first fit ends starts =
    let whole : Spells (ends.before ++ last.records) entries = record { are = sym ends.split; fit = fit } in
    let front = front_spelled ends.before last.records entries whole in
    let told : IsCheckpoint (state_of (events_of front.front)) last.checkpoint = ends.told front.front front.spells in
    let from : starts.first ≡ state_of (events_of front.front) = one_state starts.first (state_of (events_of front.front)) starts.fits told.fits (sym starts.spells ∙ told.spells) in
    let on = led starts.first last.records first starts.on in
    let same : entries ≡ front.front ++ on.entries =
    one_reading (ends.before ++ last.records) entries (front.front ++ on.entries) whole (spells_all ends.before last.records front.front on.entries front.spells on.spells) in
    on.is ∙ ap (λ s. fold after s (events_of on.entries)) from
    ∙ sym (fold-append after nothing (events_of front.front) (events_of on.entries))
    ∙ ap state_of (sym (map-append (λ (e : Entry). e.event) front.front on.entries))
    ∙ ap (λ es. state_of (events_of es)) (sym same)

none_yet : (entries : List Entry) (first : State) → first ≡ state_of (events_of entries) → first.next ≡ 0 → nothing ≡ state_of (events_of entries)
none_yet entries first is new =
    let count = next_from nothing (events_of entries) in
    let next = ap (λ (s : State). s.next) is in
    ap state_of (sym (nil_from_length (events_of entries) (omega (arith, count, next, new))))

pub state_in : (id : ℕ) (files : Files) (last : LastState) (s : State) → TellsLast Tells Spares id files last → IsStateBy last s → IsStateIn id files s
state_in id files last s tells by entries kept fit =
    let first = first_is entries last by.first fit (tells (map spelled entries) kept) by.starts in
    elim by.is [
      | inl same ↦ same ∙ first
      | inr new ↦ new.1 ∙ none_yet entries by.first first new.0
    ]

-- ---- the next start

pub found_again : (Routes : (names : List Name) (plan to bytes : List ℕ) → Type 0) (id : ℕ) (files : Files) (all whole : List (List ℕ)) (entries : List Entry)
    → IsKept Tells Spares id files all → IsPrefix all whole → Spells whole entries → Lawful Routes (events_of entries) → IsFoundAgain Routes id files all
found_again Routes id files all whole entries kept part spells lawful =
    let left = left_lawful Routes all whole entries part spells lawful in
    record {
      entries = left.entries;
      are = left.spells.are;
      log = record { kept = subst (λ rs. IsKept Tells Spares id files rs) left.spells.are kept; fit = left.spells.fit; lawful = left.lawful };
    }

-- the checkpoint of a new log
pub tells_none : (s : State) (bytes spelt : List ℕ) → bytes ≡ spelt → spelt ≡ checkpoint s → StateFits s → s ≡ nothing → Tells [] bytes
tells_none s bytes spelt same is fits new entries spells =
    let none : [] ≡ entries = one_reading [] [] entries (record { are = refl; fit = tt }) spells in
    subst (λ t. IsCheckpoint t bytes) (new ∙ ap (λ es. state_of (events_of es)) none) (record { spells = same ∙ is; fits = fits })
