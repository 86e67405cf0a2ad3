-- What was read of the log, and stands there.
use Rattle.std.proofs.Common.{◌≡◌, ℕ, zero, suc, ◌+◌, ◌≤◌, false, List, [], ◌∷◌, ◌++◌, length, take, Some, slice_get, refl, ap, sym, ◌∙◌, subst, arith}
use Rattle.std.specs.Prelude.{Result, Ok, Err, IfOk}
use Rattle.std.proofs.lemmas.List.{map-append}
use Rattle.std.proofs.lemmas.List.Sums.{fold-append}
use mathlib.Core.List.{IsPrefix}
use Rattle.gw_due.specs.Events.{Event, Planned, Accepted, Again, Passed, Named, Margin, Retired}
use Rattle.gw_due.specs.Due.{plan, plan_at, plan_by}
use Rattle.gw_due.specs.Spelling.{Entry, Fits, spelled}
use Rattle.gw_due.proofs.EventForms.{one_record}
use Rattle.gw_journal.specs.declared.event.Event as happened
use Rattle.gw_journal.specs.declared.event.Event.TheVariants.{Put, Synced, Read}
use Rattle.gw_journal.specs.Logs.{Log, AreFaithful, AreFaithfulFrom, IsAt, after, log_in, next, opened}
use Rattle.gw_journal.proofs.Logging.{log_later, log_read}
use Rattle.gw_ledger.specs.Ledgers.{Spells, events_of}
use Rattle.gw_ledger.specs.Finding.{InJournal}
use Rattle.gw_ledger.proofs.Ledging.{faithful_part, front_spelled}
use Rattle.gw_ledger.proofs.Passing.{get_front}
use Rattle.gw_delivery.specs.Seen.{IsEventAt, IsSight, IsUnder, IsUnderIn, SightState, UnderState, puts_plan}

-- ---- later

-- what holds of each log that goes on from one of which it held
pub later : (P : List Event → Type 0) (before : List (List ℕ)) (old new : List happened.Event)
    → ((log more : List Event) → P log → P (log ++ more)) → InJournal P before old → IsPrefix old new → InJournal P before new
later P before old new stays holds p faithful entries spells =
    let more = log_later before old new p in
    let cut = front_spelled (log_in before old).records more.more entries (subst (λ rs. Spells rs entries) more.records spells) in
    let whole : events_of entries ≡ events_of cut.front ++ events_of cut.rest = ap events_of cut.is ∙ map-append (λ (e : Entry). e.event) cut.front cut.rest in
    let here = holds (faithful_part before old new p faithful) cut.front cut.spells in
    subst P (sym whole) (stays (events_of cut.front) (events_of cut.rest) here)

pub event_stays : (place : ℕ) (e : Event) (log more : List Event) → IsEventAt place e log → IsEventAt place e (log ++ more)
event_stays place e log more is = get_front log more place e is

-- ---- a record that was read

faithful_last : (log : Log) (old : List happened.Event) (place : ℕ) (bytes : List ℕ) → AreFaithfulFrom log (old ++ Read place bytes ∷ []) → IsAt place bytes (after log old)
faithful_last log [] place bytes all = all.0
faithful_last log (Put b ∷ old) place bytes all = faithful_last (next log (Put b)) old place bytes all
faithful_last log (Synced count ∷ old) place bytes all = faithful_last (next log (Synced count)) old place bytes all
faithful_last log (Read p b ∷ old) place bytes all = faithful_last log old place bytes all.1

pub noted : (before : List (List ℕ)) (place : ℕ) (bytes : List ℕ) (old history : List happened.Event) → history ≡ old ++ Read place bytes ∷ []
    → IsSight before (record { place = place; bytes = bytes; history = history })
noted before place bytes old history read faithful =
    let stood = faithful_last (opened before) old place bytes (subst (λ h. AreFaithful before h) read faithful) in
    subst (λ (l : Log). IsAt place bytes l) (sym (log_read before old history place bytes read)) stood

entry_at : (records : List (List ℕ)) (entries : List Entry) (place : ℕ) (e : Entry) → Spells records entries → Fits e
    → slice_get records place ≡ Some (spelled e) → slice_get (events_of entries) place ≡ Some e.event
entry_at [] entries place e s fits at = absurd (cc)
entry_at (r ∷ records) [] place e s fits at = absurd (cc (s.are))
entry_at (r ∷ records) (x ∷ entries) zero e s fits at =
    let same : x ≡ e = one_record x e s.fit.0 fits (cc (s.are, at)) in ap (λ (y : Entry). Some y.event) same
entry_at (r ∷ records) (x ∷ entries) (suc place) e s fits at =
    entry_at records entries place e (record { are = cc (s.are); fit = s.fit.1 }) fits at

pub says : (before : List (List ℕ)) (s : SightState) (e : Entry) → IsSight before s → Fits e × (s.bytes ≡ spelled e)
    → InJournal (IsEventAt s.place e.event) before s.history
says before s e is spells faithful entries reads =
    entry_at (log_in before s.history).records entries s.place e reads spells.0 (is faithful ∙ ap Some spells.1)

-- ---- the plan in force

record Here (log : List Event) (place : ℕ) (e : Event) : Type 0 where
  before : List Event
  next : take (suc place) log ≡ take place log ++ e ∷ []
  within : suc place ≤ length log

first_only : {A : Type 0} (z : A) (xs : List A) → z ∷ take zero xs ≡ z ∷ []
first_only z [] = refl
first_only z (y ∷ ys) = refl

here : (log : List Event) (place : ℕ) (e : Event) → IsEventAt place e log → Here log place e
here [] place e is = absurd (cc)
here (x ∷ log) zero e is =
    let same : x ≡ e = cc (is) in
    record { before = []; next = first_only x log ∙ ap (λ y. y ∷ []) same; within = omega arith }
here (x ∷ log) (suc place) e is =
    let below = here log place e is in
    record { before = []; next = ap (λ l. x ∷ l) below.next; within = let w = below.within in omega (arith, w) }

by_event : (log : List Event) (place : ℕ) (e : Event) → IsEventAt place e log → plan_at (place + 1) log ≡ plan_by (plan_at place log) e
by_event log place e is =
    let h = here log place e is in
    let n : place + 1 ≡ suc place = omega arith in
    ap (λ k. plan (take k log)) n ∙ ap plan h.next ∙ fold-append plan_by [] (take place log) (e ∷ [])

beyond : (log : List Event) (place : ℕ) (e : Event) → IsEventAt place e log → place + 1 ≤ length log
beyond log place e is = let w = (here log place e is).within in omega (arith, w)

-- behind a record that puts a plan, this one is in force
pub planned : (log : List Event) (place : ℕ) (text : List ℕ) → IsEventAt place (Planned text) log → IsUnder (place + 1) text log
planned log place text is = record { within = beyond log place (Planned text) is; plan = by_event log place (Planned text) is }

same_plan : (e : Event) (text : List ℕ) → puts_plan e ≡ false → plan_by text e ≡ text
same_plan (Planned new) text none = absurd (cc)
same_plan (Accepted number to bytes) text none = refl
same_plan (Again receiver place) text none = refl
same_plan (Passed receiver place how) text none = refl
same_plan (Named receiver name address) text none = refl
same_plan (Margin number) text none = refl
same_plan (Retired segment) text none = refl

-- and behind one that puts none, the same as before
pub goes_on : (log : List Event) (place : ℕ) (e : Event) (text : List ℕ) → puts_plan e ≡ false → IsUnder place text log → IsEventAt place e log
    → IsUnder (place + 1) text log
goes_on log place e text none under is = record {
  within = beyond log place e is;
  plan = by_event log place e is ∙ ap (λ t. plan_by t e) under.plan ∙ same_plan e text none;
}

take_front : {A : Type 0} (n : ℕ) (xs ys : List A) → n ≤ length xs → take n (xs ++ ys) ≡ take n xs
take_front zero [] ys le = refl
take_front zero (x ∷ xs) ys le = refl
take_front (suc n) [] ys le = absurd (omega arith)
take_front (suc n) (x ∷ xs) ys le = ap (λ l. x ∷ l) (take_front n xs ys (omega arith))

longer : {A : Type 0} (xs ys : List A) → length xs ≤ length (xs ++ ys)
longer [] ys = omega arith
longer (x ∷ xs) ys = let l = longer xs ys in omega (arith, l)

pub under_stays : (at : ℕ) (text : List ℕ) (log more : List Event) → IsUnder at text log → IsUnder at text (log ++ more)
under_stays at text log more is =
    let w = is.within in
    let l = longer log more in
    record { within = omega (arith, w, l); plan = ap plan (take_front at log more w) ∙ is.plan }

-- ---- of journals

pub planned_in : (before : List (List ℕ)) (place at : ℕ) (text : List ℕ) (history : List happened.Event) → at ≡ place + 1
    → InJournal (IsEventAt place (Planned text)) before history → IsUnderIn before (record { at = at; text = text; history = history })
planned_in before place at text history is stands faithful entries spells =
    subst (λ n. IsUnder n text (events_of entries)) (sym is) (planned (events_of entries) place text (stands faithful entries spells))

pub goes_on_in : (before : List (List ℕ)) (u : UnderState) (at : ℕ) (e : Event) (history : List happened.Event) → puts_plan e ≡ false → at ≡ u.at + 1
    → IsUnderIn before u → IsPrefix u.history history → InJournal (IsEventAt u.at e) before history
    → IsUnderIn before (record { at = at; text = u.text; history = history })
goes_on_in before u at e history none is under p stands faithful entries spells =
    let now = later (IsUnder u.at u.text) before u.history history (under_stays u.at u.text) under p faithful entries spells in
    subst (λ n. IsUnder n u.text (events_of entries)) (sym is) (goes_on (events_of entries) u.at e u.text none now (stands faithful entries spells))

pub entry_says : {X E : Type 0} (view : X → Entry) (before : List (List ℕ)) (s : SightState) (r : Result X E) → IsSight before s
    → IfOk r (λ x. Fits (view x) × (s.bytes ≡ spelled (view x))) → IfOk r (λ x. InJournal (IsEventAt s.place (view x).event) before s.history)
entry_says view before s (Ok x) is found = says before s (view x) is found
entry_says view before s (Err e) is found = tt
