-- What an event more does to a ledger.
use Rattle.std.proofs.Common.{◌≡◌, ◌⊎◌, inl, inr, ℕ, ◌+◌, List, [], ◌∷◌, ◌++◌, length, refl, ap, sym, ◌∙◌, subst, arith}
use Rattle.std.specs.Prelude.{⊤, IsTrue}
use Rattle.std.specs.List.{AllByRecursion, fold}
use Rattle.std.proofs.lemmas.List.{map-append, length-append}
use Rattle.std.proofs.lemmas.List.Sums.{fold-append}
use mathlib.Core.List.{IsPrefix}
use Rattle.gw_due.specs.Events.{Event}
use Rattle.gw_due.specs.Due.{Name}
use Rattle.gw_due.specs.Lawful.{Lawful, no_event, one_more}
use Rattle.gw_due.specs.State.{State, after, allows, nothing, state_of}
use Rattle.gw_due.specs.Spelling.{Entry, Fits, spelled}
use Rattle.gw_due.specs.Checkpoint.{checkpoint, StateFits}
use Rattle.gw_due.proofs.EventForms.{one_record}
use Rattle.gw_due.proofs.Deciding.{decides}
use Rattle.gw_journal.specs.declared.event.Event as happened
use Rattle.gw_journal.specs.declared.event.Event.TheVariants.{Put, Synced, Read}
use Rattle.gw_journal.specs.Logs.{Log, AreFaithful, AreFaithfulFrom, log_in, next, opened}
use Rattle.gw_ledger.specs.Ledgers.{IsInState, IsLawful, IsSeenIn, Spells, Tells, events_of}

-- ---- what was read

faithful_from : (log : Log) (old more : List happened.Event) → AreFaithfulFrom log (old ++ more) → AreFaithfulFrom log old
faithful_from log [] more all = tt
faithful_from log (Put bytes ∷ old) more all = faithful_from (next log (Put bytes)) old more all
faithful_from log (Synced count ∷ old) more all = faithful_from (next log (Synced count)) old more all
faithful_from log (Read place bytes ∷ old) more all = (all.0, faithful_from log old more all.1)

pub faithful_part : (before : List (List ℕ)) (old new : List happened.Event) → IsPrefix old new → AreFaithful before new → AreFaithful before old
faithful_part before old new p all = faithful_from (opened before) old p.0 (subst (λ h. AreFaithful before h) (sym p.1) all)

-- ---- spellings

pub one_reading : (records : List (List ℕ)) (these those : List Entry) → Spells records these → Spells records those → these ≡ those
one_reading [] [] [] p q = refl
one_reading [] [] (b ∷ those) p q = absurd (cc (q.are))
one_reading [] (a ∷ these) those p q = absurd (cc (p.are))
one_reading (r ∷ records) [] those p q = absurd (cc (p.are))
one_reading (r ∷ records) (a ∷ these) [] p q = absurd (cc (q.are))
one_reading (r ∷ records) (a ∷ these) (b ∷ those) p q =
    let same : a ≡ b = one_record a b p.fit.0 q.fit.0 (cc (p.are, q.are)) in
    let rest : these ≡ those = one_reading records these those (record { are = cc (p.are); fit = p.fit.1 }) (record { are = cc (q.are); fit = q.fit.1 }) in
    cc (same, rest)

pub fits_more : (entries : List Entry) (e : Entry) → AllByRecursion Fits entries → Fits e → AllByRecursion Fits (entries ++ e ∷ [])
fits_more [] e all fits = (fits, tt)
fits_more (x ∷ entries) e all fits = (all.0, fits_more entries e all.1 fits)

spells_more : (records : List (List ℕ)) (entries : List Entry) (e : Entry) → Spells records entries → Fits e → Spells (records ++ spelled e ∷ []) (entries ++ e ∷ [])
spells_more records entries e s fits = record {
  are = ap (λ l. l ++ spelled e ∷ []) s.are ∙ sym (map-append spelled entries (e ∷ []));
  fit = fits_more entries e s.fit fits;
}

-- what stands at the front of records that are spelled is spelled too
pub record Front (part : List (List ℕ)) (entries : List Entry) : Type 0 where
  pub front : List Entry
  pub rest : List Entry
  pub is : entries ≡ front ++ rest
  pub spells : Spells part front

one_longer : (r : List ℕ) (part : List (List ℕ)) (e : Entry) (entries : List Entry) → r ≡ spelled e → Fits e → Front part entries → Front (r ∷ part) (e ∷ entries)
one_longer r part e entries head fits below = record {
  front = e ∷ below.front;
  rest = below.rest;
  is = ap (λ l. e ∷ l) below.is;
  spells = record { are = cc (head, below.spells.are); fit = (fits, below.spells.fit) };
}

pub front_spelled : (part more : List (List ℕ)) (entries : List Entry) → Spells (part ++ more) entries → Front part entries
front_spelled [] more entries s = record { front = []; rest = entries; is = refl; spells = record { are = refl; fit = tt } }
front_spelled (r ∷ part) more [] s = absurd (cc (s.are))
front_spelled (r ∷ part) more (e ∷ entries) s =
    one_longer r part e entries (cc (s.are)) s.fit.0 (front_spelled part more entries (record { are = cc (s.are); fit = s.fit.1 }))

-- records, of which the last is this entry's
pub record LastCut (records : List (List ℕ)) (e : Entry) (entries : List Entry) : Type 0 where
  pub front : List Entry
  pub all : entries ≡ front ++ e ∷ []
  pub spells : Spells records front

pub cut_one : (records these : List (List ℕ)) (e : Entry) (entries : List Entry) → these ≡ records ++ spelled e ∷ [] → Fits e → Spells these entries
    → LastCut records e entries
cut_one records these e entries same fits spells =
    let whole = subst (λ rs. Spells rs entries) same spells in
    let cut = front_spelled records (spelled e ∷ []) entries whole in
    record {
      front = cut.front;
      all = one_reading (records ++ spelled e ∷ []) entries (cut.front ++ e ∷ []) whole (spells_more records cut.front e cut.spells fits);
      spells = cut.spells;
    }

-- ---- states

pub next_from : (s : State) (log : List Event) → (fold after s log).next ≡ s.next + length log
next_from s [] = omega arith
next_from s (e ∷ log) = let r = next_from (after s e) log in omega (arith, r)

pub events_more : (entries : List Entry) (e : Entry) → events_of (entries ++ e ∷ []) ≡ events_of entries ++ e.event ∷ []
events_more entries e = map-append (λ (e : Entry). e.event) entries (e ∷ [])

-- the place of the next record
pub next_is : (Routes : (names : List Name) (plan to bytes : List ℕ) → Type 0) (faithful : Type 0) (records : List (List ℕ)) (s : State)
    → IsInState Routes faithful records s → s.next ≡ length records
next_is Routes faithful records s is = is.counted

-- ---- lawful logs

-- what stands at the front of a list with a last item is all of it, or stands at the front of the others
cut_last : (log : List Event) (x : Event) (part more : List Event) → log ++ x ∷ [] ≡ part ++ more
    → (log ++ x ∷ [] ≡ part) ⊎ ((rest : List Event) × (log ≡ part ++ rest))
cut_last log x [] more is = inr (log, refl)
cut_last [] x (p ∷ []) more is = inl (cc (is))
cut_last [] x (p ∷ q ∷ part) more is = absurd (cc (is))
cut_last (y ∷ log) x (p ∷ part) more is = below (cut_last log x part more (cc (is))) where
  head : y ≡ p
  head = cc (is)

  below : (log ++ x ∷ [] ≡ part) ⊎ ((rest : List Event) × (log ≡ part ++ rest))
      → (y ∷ log ++ x ∷ [] ≡ p ∷ part) ⊎ ((rest : List Event) × (y ∷ log ≡ p ∷ part ++ rest))
  below (inl whole) = inl (cc (head, whole))
  below (inr cut) = inr (cut.0, cc (head, cut.1))

module _ (Routes : (names : List Name) (plan to bytes : List ℕ) → Type 0) where
  beginning : (whole : List Event) → Lawful Routes whole → (part more : List Event) → whole ≡ part ++ more → Lawful Routes part
  beginning [] no_event [] more is = no_event
  beginning [] no_event (p ∷ part) more is = absurd (cc (is))
  beginning _ (one_more log x lawful may) part more is =
      by_cut (cut_last log x part more is) (λ rest e. beginning log lawful part rest e)
    where
      by_cut : (log ++ x ∷ [] ≡ part) ⊎ ((rest : List Event) × (log ≡ part ++ rest)) → ((rest : List Event) → log ≡ part ++ rest → Lawful Routes part) → Lawful Routes part
      by_cut (inl whole) below = subst (λ l. Lawful Routes l) whole (one_more log x lawful may)
      by_cut (inr cut) below = below cut.0 cut.1

  pub lawful_part : (part whole : List Event) → IsPrefix part whole → Lawful Routes whole → Lawful Routes part
  lawful_part part whole p lawful = beginning whole lawful part p.0 (sym p.1)

  pub left_lawful : (part whole : List (List ℕ)) (entries : List Entry) → IsPrefix part whole → Spells whole entries
      → Lawful Routes (events_of entries) → IsLawful Routes part
  left_lawful part whole entries p spells lawful =
      let cut = front_spelled part p.0 entries (subst (λ rs. Spells rs entries) (sym p.1) spells) in
      let is : events_of entries ≡ events_of cut.front ++ events_of cut.rest = ap events_of cut.is ∙ map-append (λ (e : Entry). e.event) cut.front cut.rest in
      record { entries = cut.front; spells = cut.spells; lawful = lawful_part (events_of cut.front) (events_of entries) (events_of cut.rest, sym is) lawful }

  -- ---- the ledger's state

  -- nothing was put, and perhaps something was read
  pub state_stays : (old new : Type 0) (records these : List (List ℕ)) (s : State) → (new → old) → these ≡ records
      → IsInState Routes old records s → IsInState Routes new these s
  state_stays old new records these s less same is = record {
    counted = is.counted ∙ ap length (sym same);
    is = λ entries spells. is.is entries (subst (λ rs. Spells rs entries) same spells);
    lawful = λ faithful entries spells. is.lawful (less faithful) entries (subst (λ rs. Spells rs entries) same spells);
  }

  -- nothing happened yet
  pub state_opened : (before : List (List ℕ)) (history : List happened.Event) (s : State) → history ≡ [] → IsInState Routes ⊤ before s
      → IsInState Routes (AreFaithful before history) (log_in before history).records s
  state_opened before history s empty is =
      state_stays ⊤ (AreFaithful before history) before (log_in before history).records s (λ _. tt) (ap (λ h. (log_in before h).records) empty) is

  -- an entry is put
  pub state_more : (old new : Type 0) (records these : List (List ℕ)) (s : State) (e : Entry) → (new → old) → these ≡ records ++ spelled e ∷ []
      → Fits e → IsTrue (allows s e.event) → IsSeenIn Routes old records e.event → IsInState Routes old records s → IsInState Routes new these (after s e.event)
  state_more old new records these s e less same fits allowed seen is = record {
    counted =
        let one = next_from s (e.event ∷ []) in
        let all = ap length same ∙ length-append records (spelled e ∷ []) in
        let count = is.counted in
        omega (arith, one, all, count);
    is = λ entries spells.
        let cut = cut_one records these e entries same fits spells in
        ap (λ s. after s e.event) (is.is cut.front cut.spells) ∙ sym (fold-append after nothing (events_of cut.front) (e.event ∷ []))
        ∙ ap state_of (sym (events_more cut.front e)) ∙ ap (λ es. state_of (events_of es)) (sym cut.all);
    lawful = λ faithful entries spells.
        let cut = cut_one records these e entries same fits spells in
        let log = events_of cut.front in
        let before = is.lawful (less faithful) cut.front cut.spells in
        let allows_it : IsTrue (allows (state_of log) e.event) = subst (λ s. IsTrue (allows s e.event)) (is.is cut.front cut.spells) allowed in
        subst (λ es. Lawful Routes (events_of es)) (sym cut.all) (subst (λ l. Lawful Routes l) (sym (events_more cut.front e))
        (one_more log e.event before ((decides Routes log e.event before).1 (allows_it, seen cut.front cut.spells (less faithful)))));
  }

  -- its checkpoint speaks of these records
  pub told : (faithful : Type 0) (records : List (List ℕ)) (s : State) (bytes : List ℕ) → IsInState Routes faithful records s
      → bytes ≡ checkpoint s → StateFits s → Tells records bytes
  told faithful records s bytes is spells fits entries reads =
      let now = is.is entries reads in
      record { spells = spells ∙ ap checkpoint now; fits = subst StateFits now fits }

-- no record stands there yet
pub none_yet : (Routes : (names : List Name) (plan to bytes : List ℕ) → Type 0) (before : List (List ℕ)) (s : State) → before ≡ [] → s ≡ nothing → IsInState Routes ⊤ before s
none_yet Routes before s empty new =
    let none : (entries : List Entry) → Spells [] entries → [] ≡ entries = λ entries spells. one_reading [] [] entries (record { are = refl; fit = tt }) spells in
    subst (λ b. IsInState Routes ⊤ b s) (sym empty) (record {
      counted = ap (λ (s : State). s.next) new;
      is = λ entries spells. new ∙ ap (λ es. state_of (events_of es)) (none entries spells);
      lawful = λ _ entries spells. subst (λ es. Lawful Routes (events_of es)) (none entries spells) no_event;
    })
