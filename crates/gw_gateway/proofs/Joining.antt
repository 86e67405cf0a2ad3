-- What was seen of a journal stays so as it goes on.
use Rattle.std.proofs.Common.{◌≡◌, Bool, ℕ, ◌+◌, List, [], ◌++◌, Option, Some, refl, ap, sym, ◌∙◌, subst, arith, append_assoc, append-nil}
use Rattle.std.proofs.lemmas.List.{map-append}
use mathlib.Core.List.{IsPrefix}
use Rattle.gw_due.specs.Events.{Event}
use Rattle.gw_due.specs.Spelling.{Entry}
use Rattle.gw_journal.specs.declared.event.Event as happened
use Rattle.gw_journal.specs.Logs.{Confirms, IsStored, TicketState, log_in}
use Rattle.gw_journal.proofs.Logging.{log_later, at_later, stored_later}
use Rattle.gw_ledger.specs.Ledgers.{Spells, events_of}
use Rattle.gw_ledger.specs.Finding.{InJournal}
use Rattle.gw_ledger.proofs.Ledging.{faithful_part, front_spelled}
use Rattle.gw_gateway.specs.Waiting.{AllStored, GoesOn, IsAwaited, IsPut, IsWaiting, WaitState, seen_in, waiting}

-- ---- beginnings

pub same_begins : {A : Type 0} (xs : List A) → IsPrefix xs xs
same_begins xs = ([], append-nil xs)

pub begins_on : {A : Type 0} (xs ys zs : List A) → IsPrefix xs ys → IsPrefix ys zs → IsPrefix xs zs
begins_on xs ys zs p q = (p.0 ++ q.0, sym (append_assoc xs p.0 q.0) ∙ ap (λ l. l ++ q.0) p.1 ∙ q.1)

-- ---- of a journal

-- what holds of all logs that go on from one holds as the journal goes on
pub journal_later : (P : List Event → Type 0) (before : List (List ℕ)) (old new : List happened.Event) → IsPrefix old new
    → ((log more : List Event) → P log → P (log ++ more)) → InJournal P before old → InJournal P before new
journal_later P before old new p grows holds faithful entries spells =
    let later = log_later before old new p in
    let cut = front_spelled (log_in before old).records later.more entries (subst (λ rs. Spells rs entries) later.records spells) in
    let whole : events_of entries ≡ events_of cut.front ++ events_of cut.rest = ap events_of cut.is ∙ map-append (λ (e : Entry). e.event) cut.front cut.rest in
    subst P (sym whole) (grows (events_of cut.front) (events_of cut.rest) (holds (faithful_part before old new p faithful) cut.front cut.spells))

-- ---- what is waited for

pub stays : (s : WaitState) → GoesOn s s
stays s = record { history = same_begins s.history; upto = omega arith }

pub goes_both : (s t u : WaitState) → GoesOn s t → GoesOn t u → GoesOn s u
goes_both s t u first then = record {
  history = begins_on s.history t.history u.history first.history then.history;
  upto = omega (arith, first.upto, then.upto);
}

pub awaited_later : (before : List (List ℕ)) (s t : WaitState) (place : ℕ) (bytes : List ℕ) → GoesOn s t → IsAwaited before s place bytes → IsAwaited before t place bytes
awaited_later before s t place bytes on a = record {
  there = at_later place bytes (log_in before s.history) (log_in before t.history) (log_later before s.history t.history on.history) a.there;
  below = omega (arith, on.upto, a.below);
}

-- what answers wait for is on the disk
pub awaited_stored : (before : List (List ℕ)) (s t : WaitState) (place : ℕ) (bytes : List ℕ) → GoesOn s t → AllStored before t → IsAwaited before s place bytes
    → IsStored place bytes (log_in before t.history)
awaited_stored before s t place bytes on all a =
    let later = awaited_later before s t place bytes on a in
    record { there = later.there; synced = omega (arith, all, later.below) }

pub stored_on : (before : List (List ℕ)) (old new : List happened.Event) (place : ℕ) (bytes : List ℕ) → IsPrefix old new
    → IsStored place bytes (log_in before old) → IsStored place bytes (log_in before new)
stored_on before old new place bytes p = stored_later place bytes (log_in before old) (log_in before new) (log_later before old new p)

pub all_on : (before : List (List ℕ)) (s t : WaitState) → IsPrefix s.history t.history → t.upto ≡ s.upto → AllStored before s → AllStored before t
all_on before s t p same all = let later = log_later before s.history t.history p in omega (arith, same, all, later.synced)

-- more is seen
pub sees_more : (before : List (List ℕ)) (front : Option (List happened.Event)) (last : Option TicketState) (waits : Bool) (more : List happened.Event)
    → IsWaiting before front last waits → IsPrefix (seen_in front) more → IsWaiting before (Some more) last waits
sees_more before front last waits more w p = record {
  put = w.put;
  done = λ none. all_on before (waiting front last) (waiting (Some more) last) p refl (w.done none);
}

-- what is waited for is on the disk by the receipt of its last record
pub settled_so : (before : List (List ℕ)) (w : WaitState) (ticket receipt : TicketState) → w.upto ≡ ticket.place + 1 → IsPut before ticket → Confirms before ticket receipt
    → IsPrefix receipt.history w.history → AllStored before w
settled_so before w ticket receipt last put confirms p =
    let stored = confirms put.bytes put.there in
    let later = log_later before receipt.history w.history p in
    omega (arith, last, stored.synced, later.synced)
